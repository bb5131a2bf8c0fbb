use Rattle.std.proofs.Common.{◌∷◌, ap, ◌∙◌}
use Rattle.std.proofs.lemmas.List.{length-map}
use Rattle.fixed_text.specs.Words.{is_signed, width}
use Rattle.fixed_filter.specs.Scripts.{are_samples}
use Rattle.fixed_filter.proofs.Scripts.{script_printed}
use Rattle.fixed_filter.proofs.laws.script_law.Goals as goal

pub returns : goal.returns
returns c = λ h channels samples shape_fit fit sampled.
    script_printed h channels samples shape_fit fit
    (ap (λ m. are_samples (is_signed h.word) (width h.word) m samples) (length-map channels (λ t. t.0 ∷ t.1)) ∙ sampled)
