-- Banks over words, seen by their numbers.
use Rattle.std.proofs.Common.{◌≡◌, ◌-◌, ℕ, zero, suc, ℤ, pos, List, [], ◌∷◌, ◌++◌, length, map, replicate, take, refl, sym, ap, ◌∙◌}
use Rattle.std.specs.Prelude.{slice_index_or}
use Rattle.std.proofs.lemmas.List.{length-map, map-append, take-map}
use Rattle.fixed_filter.specs.Banks.{Filter, change_at, fresh, with_sample}
use Rattle.fixed_filter.specs.inside.Kept.{filter_map, lane_at}

module _ {T : Type 0} (value : T → ℤ) where
  replicate_map : (n : ℕ) (z : T) → map value (replicate n z) ≡ replicate n (value z)
  replicate_map zero z = refl
  replicate_map (suc n) z = ap (λ (zs : List ℤ). value z ∷ zs) (replicate_map n z)

  fresh_map : (z : T) (taps : List T) → value z ≡ pos 0 → filter_map value (fresh z taps) ≡ fresh (pos 0) (map value taps)
  fresh_map z taps e =
      ap (λ (past : List ℤ). record { taps = map value taps; past = past }) (replicate_map (length taps) z)
      ∙ ap (λ (x : ℤ). record { taps = map value taps; past = replicate (length taps) x }) e
      ∙ ap (λ (n : ℕ). record { taps = map value taps; past = replicate n (pos 0) }) (sym (length-map taps value))

  pub channels_added : (z : T) (taps : List T) (channels : List (Filter T)) → value z ≡ pos 0 → map (filter_map value) (channels ++ fresh z taps ∷ []) ≡ map (filter_map value) channels ++ fresh (pos 0) (map value taps) ∷ []
  channels_added z taps channels e =
      map-append (filter_map value) channels (fresh z taps ∷ []) ∙ ap (λ (f : Filter ℤ). map (filter_map value) channels ++ f ∷ []) (fresh_map z taps e)

  sample_map : (x : T) (f : Filter T) → filter_map value (with_sample x f) ≡ with_sample (value x) (filter_map value f)
  sample_map x f =
      ap (λ (past : List ℤ). record { taps = map value f.taps; past = value x ∷ past }) (sym (take-map value (length f.past - 1) f.past))
      ∙ ap (λ (n : ℕ). record { taps = map value f.taps; past = value x ∷ take (n - 1) (map value f.past) }) (sym (length-map f.past value))

  pub channels_moved : (j : ℕ) (x : T) (channels : List (Filter T)) → map (filter_map value) (change_at j (with_sample x) channels) ≡ change_at j (with_sample (value x)) (map (filter_map value) channels)
  channels_moved j x [] = refl
  channels_moved zero x (f ∷ fs) = ap (λ (l : Filter ℤ). l ∷ map (filter_map value) fs) (sample_map x f)
  channels_moved (suc j) x (f ∷ fs) = ap (λ (ls : List (Filter ℤ)). filter_map value f ∷ ls) (channels_moved j x fs)

  pub lane_map : (channels : List (Filter T)) (j : ℕ) → lane_at (map (filter_map value) channels) j ≡ filter_map value (slice_index_or channels j (record { taps = []; past = [] }))
  lane_map [] j = refl
  lane_map (f ∷ fs) zero = refl
  lane_map (f ∷ fs) (suc j) = lane_map fs j

pub length_changed : {X : Type 0} (i : ℕ) (change : X → X) (xs : List X) → length (change_at i change xs) ≡ length xs
length_changed i change [] = refl
length_changed zero change (x ∷ xs) = refl
length_changed (suc i) change (x ∷ xs) = ap suc (length_changed i change xs)
