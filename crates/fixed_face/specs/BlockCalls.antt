-- What each call over one block or two asks for.
use Rattle.std.specs.Prelude.{◌+ℤ◌, ◌-ℤ◌, ◌*ℤ◌, neg_ℤ, ℕ, ℤ, List, map, Result}
use Rattle.fixed_kernel.specs.Rows.{exact_mul, exact_mul_add}
use Rattle.fixed_convert.specs.Convert.{rounded_convert}
use Rattle.fixed_block.specs.Blocks.{of_pairs}
use Rattle.fixed_face.specs.declared.answer.Code.{Code}
use Rattle.fixed_face.specs.declared.block_calls.EachCall.{EachCall}
use Rattle.fixed_face.specs.declared.block_calls.EachCall.TheVariants.{Neg, MulInt, Scale, Convert}
use Rattle.fixed_face.specs.declared.block_calls.PairsCall.{PairsCall}
use Rattle.fixed_face.specs.declared.block_calls.PairsCall.TheVariants.{Add, Sub, Mul, MulAdd}
use Rattle.fixed_face.specs.Answers.{at_fraction}
use Rattle.fixed_face.specs.Blocks.{Asked, at_policy}
use Rattle.fixed_face.specs.Places.{with_as_many}
use Rattle.fixed_face.specs.Roundings.{at_rounding}

-- the exact results for a block of words of n bits, or the code of the refusal
abbrev pub each_in : {T : Type 0} → (T → ℤ) → ℕ → EachCall T → ℕ → List T → Result Asked Code
each_in value n Neg policy xs = at_policy policy (map neg_ℤ (map value xs))
each_in value n (MulInt k) policy xs = at_policy policy (map (λ x. x *ℤ value k) (map value xs))
each_in value n (Scale by frac) policy xs = at_fraction n frac (at_policy policy (map (λ x. exact_mul x (value by) frac) (map value xs)))
each_in value n (Convert from to rounding) policy xs = at_fraction n from (at_fraction n to (at_rounding rounding (λ r. at_policy policy (map (λ x. rounded_convert x from to r) (map value xs)))))

-- and for two blocks
abbrev pub pairs_in : {T : Type 0} → (T → ℤ) → ℕ → PairsCall T → ℕ → List T → List T → Result Asked Code
pairs_in value n Add policy xs ys = with_as_many xs ys (at_policy policy (of_pairs (λ x y. x +ℤ y) (map value xs) (map value ys)))
pairs_in value n Sub policy xs ys = with_as_many xs ys (at_policy policy (of_pairs (λ x y. x -ℤ y) (map value xs) (map value ys)))
pairs_in value n (Mul frac) policy xs ys = at_fraction n frac (with_as_many xs ys (at_policy policy (of_pairs (λ x y. exact_mul x y frac) (map value xs) (map value ys))))
pairs_in value n (MulAdd by frac) policy xs ys = at_fraction n frac (with_as_many xs ys (at_policy policy (of_pairs (λ x y. exact_mul_add y (value by) x frac) (map value xs) (map value ys))))
