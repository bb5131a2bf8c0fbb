-- Operations whose name is the first token.
use Rattle.std.proofs.Common.{◌≡◌, ℕ, ◌+◌, ◌-◌, ◌<◌, List, ◌∷◌, ◌++◌, take, drop, length, get_or, Some, refl, sym, ap, ◌∙◌, arith}
use Rattle.std.proofs.lemmas.Grind.{common_steps}
use Rattle.fixed_script.specs.declared.names.Op.{Op}
use Rattle.fixed_script.specs.declared.names.Op.TheVariants.{Neg, Add, Sub, Mul, Div, Recip, MulAdd, AddProd, MulInt, DivInt, DivEuclid, DivEuclidInt, RemEuclidInt, NextMultipleOf, Dist, Sqrt, Abs, Signum, Rem, RemInt, RemEuclid, NextPowerOfTwo}
use Rattle.fixed_script.specs.Names.{op_name, op_named, all_ops}
use Rattle.fixed_text.specs.Tokens.{tokens_of, next_by, took}
use Rattle.fixed_text.proofs.Steps.{named_takes}

op_cut : (o : Op) (rest : List ℕ) → tokens_of (op_name o ++ 32 ∷ rest) ≡ op_name o ∷ tokens_of rest
op_cut Neg rest = refl
op_cut Add rest = refl
op_cut Sub rest = refl
op_cut Mul rest = refl
op_cut Div rest = refl
op_cut Recip rest = refl
op_cut MulAdd rest = refl
op_cut AddProd rest = refl
op_cut MulInt rest = refl
op_cut DivInt rest = refl
op_cut DivEuclid rest = refl
op_cut DivEuclidInt rest = refl
op_cut RemEuclidInt rest = refl
op_cut NextMultipleOf rest = refl
op_cut Dist rest = refl
op_cut Sqrt rest = refl
op_cut Abs rest = refl
op_cut Signum rest = refl
op_cut Rem rest = refl
op_cut RemInt rest = refl
op_cut RemEuclid rest = refl
op_cut NextPowerOfTwo rest = refl

-- an operation's name before a space is the first token
pub op_front : (bytes : List ℕ) (n : ℕ) (o : Op) → n < length bytes → get_or bytes n 0 ≡ 32 → op_named (take n bytes) ≡ Some o → next_by op_named (tokens_of bytes) ≡ Some (o, tokens_of (take (length bytes - (n + 1)) (drop (n + 1) bytes)))
op_front bytes n o lt space named =
    let rest : List ℕ = take (length bytes - (n + 1)) (drop (n + 1) bytes) in
    let whole : bytes ≡ take n bytes ++ 32 ∷ rest = grind (arith, common_steps) in
    let name : op_name o ≡ take n bytes = named_takes op_name all_ops (take n bytes) o named in
    ap (λ bs. next_by op_named (tokens_of bs)) (whole ∙ ap (λ t. t ++ 32 ∷ rest) (sym name))
    ∙ ap (next_by op_named) (op_cut o rest)
    ∙ ap (λ t. took (op_named t) (tokens_of rest)) name
    ∙ ap (λ r. took r (tokens_of rest)) named
