-- Registers, whole numbers and names are read as what their text says.
use Rattle.std.proofs.Common.{◌≡◌, ℕ, List, [], ◌∷◌, ℤ, pos, negsuc, Option, Some, None, eqb, refl, sym, ap, ◌∙◌}
use Rattle.std.proofs.lemmas.Bool.{eqb-true}
use Rattle.std.proofs.lemmas.Option.{same_Some}
use Rattle.fixed_script.specs.declared.names.Policy.{Policy}
use Rattle.fixed_script.specs.declared.names.Policy.TheVariants.{Checked, Saturating, Wrapping, Overflowing, Strict}
use Rattle.fixed_script.specs.declared.names.Op.{Op}
use Rattle.fixed_script.specs.declared.names.Op.TheVariants.{Neg, Add, Sub, Mul, Div, Recip, MulAdd, AddProd, MulInt, DivInt, DivEuclid, DivEuclidInt, RemEuclidInt, NextMultipleOf, Dist, Sqrt, Abs, Signum, Rem, RemInt, RemEuclid, NextPowerOfTwo}
use Rattle.fixed_text.specs.declared.decimal.Decimal.{Decimal}
use Rattle.fixed_text.specs.Decimals.{decimal_of}
use Rattle.fixed_text.specs.Numbers.{whole_in}
use Rattle.fixed_text.proofs.Wholes.{whole_again, whole_only}
use Rattle.std.specs.Option.{option_map}
use Rattle.fixed_word.specs.Decimal.{whole_text}
use Rattle.fixed_script.specs.Names.{policy_name, policy_named, op_name, op_named}
use Rattle.fixed_script.specs.Text.{register_text}
use Rattle.fixed_digits.specs.Numerals.{cap, natural_at}
use Rattle.fixed_script.specs.Capped.{cap_whole, literal_value}
use Rattle.fixed_script.specs.inside.Parser.{register_at, literal_at}
use Rattle.fixed_digits.proofs.Decimals.{natural_takes, natural_again}
use Rattle.fixed_text.proofs.Steps.{guard_some}

pub register_takes : (t : List ℕ) (m : ℕ) → register_at t ≡ Some m → (n : ℕ) × (register_text n ≡ t) × (m ≡ cap n)
unfolding register_at
register_takes [] m e = cc
register_takes (c ∷ cs) m e =
    let parts = guard_some (eqb c 114) (natural_at cs) m e in
    let found = natural_takes cs m parts.1 in
    (found.0, ap (λ t. 114 ∷ t) found.1 ∙ ap (λ k. k ∷ cs) (sym (eqb-true c 114 parts.0)), found.2)

pub register_again : (n : ℕ) → register_at (register_text n) ≡ Some (cap n)
unfolding register_at
register_again n = natural_again n

value_held : (k : ℤ) → literal_value (decimal_of k) ≡ cap_whole k
value_held (pos n) = refl
value_held (negsuc n) = refl

literal_from : (t : List ℕ) (o : Option ℤ) (l : Decimal) → whole_in t ≡ o → option_map decimal_of o ≡ Some l → (k : ℤ) × (whole_text k ≡ t) × (literal_value l ≡ cap_whole k)
literal_from t None l is e = cc
literal_from t (Some k) l is e = (k, whole_only t k is, ap literal_value (sym (same_Some (decimal_of k) l e)) ∙ value_held k)

pub literal_takes : (t : List ℕ) (l : Decimal) → literal_at t ≡ Some l → (k : ℤ) × (whole_text k ≡ t) × (literal_value l ≡ cap_whole k)
literal_takes t l e = literal_from t (whole_in t) l refl e

pub literal_again : (k : ℤ) → (l : Decimal) × (literal_at (whole_text k) ≡ Some l)
literal_again k = (decimal_of k, ap (option_map decimal_of) (whole_again k))

pub policy_again : (p : Policy) → policy_named (policy_name p) ≡ Some p
policy_again Checked = refl
policy_again Saturating = refl
policy_again Wrapping = refl
policy_again Overflowing = refl
policy_again Strict = refl

pub op_again : (o : Op) → op_named (op_name o) ≡ Some o
op_again Neg = refl
op_again Add = refl
op_again Sub = refl
op_again Mul = refl
op_again Div = refl
op_again Recip = refl
op_again MulAdd = refl
op_again AddProd = refl
op_again MulInt = refl
op_again DivInt = refl
op_again DivEuclid = refl
op_again DivEuclidInt = refl
op_again RemEuclidInt = refl
op_again NextMultipleOf = refl
op_again Dist = refl
op_again Sqrt = refl
op_again Abs = refl
op_again Signum = refl
op_again Rem = refl
op_again RemInt = refl
op_again RemEuclid = refl
op_again NextPowerOfTwo = refl
