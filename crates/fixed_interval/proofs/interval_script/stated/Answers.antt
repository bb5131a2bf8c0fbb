use Rattle.std.proofs.Common.{◌≤ℤ◌}
use Rattle.std.proofs.Common.{sym, ap, Some, ◌∙◌}
use Rattle.std.specs.Option.{option_map}
use Rattle.fixed_word.specs.Policies.{checked}
use Rattle.fixed_text.specs.declared.decimal.Decimal.{Decimal}
use Rattle.fixed_text.specs.Decimals.{decimal_value}
use Rattle.fixed_interval.proofs.Setting.{stated_is}
use Rattle.fixed_interval.proofs.Fitting.{made_ends, shown}
use Rattle.fixed_interval.specs.Ends.{ends_of}
use Rattle.fixed_interval.proofs.interval_script.stated.Goals as goal

pub returns : goal.returns
returns g c = λ l h e f.
    let number = g.T.Valued.value in
    let s = g.T.RawWord.SIGNED in
    let n = g.T.Valued.BITS in
    let held = λ (d : Decimal). checked s n (Some (decimal_value d)) in
    let low = ap (option_map number) (sym c.in_ok-low.was) ∙ c.value_in.ensures ∙ ap held e in
    let high = ap (option_map number) (sym c.in_ok-high.was) ∙ c.value_in-2.ensures ∙ ap held f in
    stated_is s n g.met.T.RawWord.width_law l h (number c.in_ok-low.low) low (number c.in_ok-high.high) high (option_map (ends_of number) c.new.result) (made_ends number c.in_ok-low.low c.in_ok-high.high c.new.result c.new.ensures.ends) (shown (ends_of number) (λ e. e.low ≤ℤ e.high) c.new.result c.new.ensures.order)
