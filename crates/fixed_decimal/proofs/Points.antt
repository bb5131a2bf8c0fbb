-- Where the point stands, from the runs of digits before it and behind it.
use Rattle.std.proofs.Common.{◌≡◌, ℕ, ◌+◌, ◌-◌, ◌<◌, ◌≤◌, ◌||◌, Bool, true, false, not, List, [], ◌∷◌, ◌++◌, length, take, drop, get_or, Some, None, zero, suc, min, if◌then◌else◌, inl, inr, true≢false, zero-add, length-append, length-drop, refl, sym, ap, ◌∙◌, arith}
use mir.Val.{bool_byte}
use Rattle.std.specs.Prelude.{find, nat_lt}
use Rattle.std.proofs.lemmas.Bool.Decides.{nat_tests}
use Rattle.std.specs.Option.{option_or}
use Rattle.std.specs.Char.{is_ascii_digit}
use Rattle.std.specs.List.{list_all, prefix_len, position_or_len}
use Rattle.std.specs.Cmp.Derive.{both_true}
use Rattle.std.proofs.lemmas.Grind.{common_steps}
use Rattle.std.proofs.lemmas.Bool.{cases_lt, eqb-true, ne_eqb}
use Rattle.std.proofs.lemmas.List.{drop_all, get_or-take, get_or-drop, length-take-le}
use Rattle.std.proofs.lemmas.List.Folds.{find-append, list_all-append}
use Rattle.std.proofs.lemmas.List.Sums.{passes_at_first, position_or_len_is, prefix_len_is, prefix_len_passes, prefix_len_stops, prefix_len-le-length}
use lib.ListN.{get_or-eq_default}
use Rattle.fixed_decimal.specs.inside.Reading.{IsPointAt, part_end}
use Rattle.fixed_digits.proofs.Capping.{digit_value_is}
use Rattle.fixed_decimal.specs.Decimal.{digits_in, fault_of, is_point, lead}
use Rattle.fixed_decimal.specs.declared.error.DecimalError.{DecimalError}
use Rattle.fixed_decimal.specs.declared.error.DecimalError.TheVariants.{InvalidDigit, TooManyPoints}

abbrev pub other : ℕ → Bool
other c = not (is_ascii_digit c)

abbrev pub run : List ℕ → ℕ
run bytes = prefix_len is_ascii_digit bytes

-- why a byte at that place is no digit
abbrev pub fault_at : ℕ → ℕ → DecimalError
fault_at place c = if is_point c then TooManyPoints else InvalidDigit place

pub digit_no_point : (c : ℕ) → is_ascii_digit c ≡ true → is_point c ≡ false
digit_no_point c h = let d = digit_value_is c h in grind (arith, d.1)

-- the first byte that is no digit
find_step : (b : Bool) (d : ℕ) (ds : List ℕ) → is_ascii_digit d ≡ b → (run ds < length ds → find other ds ≡ Some (get_or ds (run ds) 0)) → run (d ∷ ds) < length (d ∷ ds) → find other (d ∷ ds) ≡ Some (get_or (d ∷ ds) (run (d ∷ ds)) 0)
find_step true d ds e more h = grind (arith, common_steps)
find_step false d ds e more h = grind (arith, common_steps)

pub find_other : (ds : List ℕ) → run ds < length ds → find other ds ≡ Some (get_or ds (run ds) 0)
find_other [] h = absurd (omega arith)
find_other (d ∷ ds) h = find_step (is_ascii_digit d) d ds refl (find_other ds) h

find_none_step : (b : Bool) (d : ℕ) (ds : List ℕ) → is_ascii_digit d ≡ b → (run ds ≡ length ds → (find other ds ≡ None) × (list_all is_ascii_digit ds ≡ true)) → run (d ∷ ds) ≡ length (d ∷ ds) → (find other (d ∷ ds) ≡ None) × (list_all is_ascii_digit (d ∷ ds) ≡ true)
find_none_step true d ds e more h = (grind (arith, common_steps), both_true e (more (grind (arith, common_steps))).1)
find_none_step false d ds e more h = absurd (grind (arith, common_steps))

-- digits alone
pub find_none : (ds : List ℕ) → run ds ≡ length ds → (find other ds ≡ None) × (list_all is_ascii_digit ds ≡ true)
find_none [] h = (refl, refl)
find_none (d ∷ ds) h = find_none_step (is_ascii_digit d) d ds refl (find_none ds) h

pub fault_first : (w : ℕ) (ds : List ℕ) (b : ℕ) → find other ds ≡ Some b → fault_of w ds ≡ Some (fault_at w b)
fault_first w [] b e = absurd (cc)
fault_first w (d ∷ ds) b e = rw e refl

pub fault_free : (w : ℕ) (ds : List ℕ) → find other ds ≡ None → 0 < length ds → fault_of w ds ≡ None
fault_free w [] e h = absurd (omega arith)
fault_free w (d ∷ ds) e h = rw e refl

-- ---- the whole form
before_point : (bytes : List ℕ) (k : ℕ) → k < run bytes → is_point (get_or bytes k 0) ≡ false
before_point bytes k lt = digit_no_point (get_or bytes k 0) (prefix_len_passes is_ascii_digit bytes k 0 lt)

-- the run of the front of the bytes
run_all : (bytes : List ℕ) (n : ℕ) → n ≤ run bytes → run (take n bytes) ≡ length (take n bytes)
run_all bytes n h =
    let l = length-take-le n bytes (omega (arith, prefix_len-le-length is_ascii_digit bytes)) in
    prefix_len_is is_ascii_digit (take n bytes) (length (take n bytes)) 0 (omega arith)
    (λ k lt. ap is_ascii_digit (get_or-take n bytes k 0 (omega arith)) ∙ prefix_len_passes is_ascii_digit bytes k 0 (omega arith))
    (λ lt. absurd (omega arith))

run_some : (bytes : List ℕ) (n : ℕ) → run bytes < n → n ≤ length bytes → run (take n bytes) ≡ run bytes
run_some bytes n h within =
    let l = length-take-le n bytes within in
    prefix_len_is is_ascii_digit (take n bytes) (run bytes) 0 (omega arith)
    (λ k lt. ap is_ascii_digit (get_or-take n bytes k 0 (omega arith)) ∙ prefix_len_passes is_ascii_digit bytes k 0 lt)
    (λ lt. ap is_ascii_digit (get_or-take n bytes (run bytes) 0 h) ∙ prefix_len_stops is_ascii_digit bytes 0 (omega arith))

-- a point at the end of the first run is the first point
point_here : (bytes : List ℕ) → run bytes < length bytes → is_point (get_or bytes (run bytes) 0) ≡ true → position_or_len is_point bytes ≡ run bytes
point_here bytes lt here = position_or_len_is is_point bytes (run bytes) 0 (omega arith) (before_point bytes) (λ _. here)

-- digits to the end have none
point_none : (bytes : List ℕ) → run bytes ≡ length bytes → position_or_len is_point bytes ≡ length bytes
point_none bytes e = position_or_len_is is_point bytes (length bytes) 0 (omega arith) (λ k lt. before_point bytes k (omega arith)) (λ lt. absurd (omega arith))

-- a byte that is none stands before the first point
point_later : (bytes : List ℕ) → run bytes < length bytes → is_point (get_or bytes (run bytes) 0) ≡ false → run bytes < position_or_len is_point bytes
point_later bytes lt here =
    elim (cases_lt (run bytes) (position_or_len is_point bytes)) [
      | inl less ↦ less
      | inr more ↦
          let at = passes_at_first is_point bytes 0 (omega arith) in
          elim (cases_lt (position_or_len is_point bytes) (run bytes)) [
            | inl before ↦ absurd (true≢false (sym at ∙ before_point bytes (position_or_len is_point bytes) before))
            | inr same ↦
                let e : position_or_len is_point bytes ≡ run bytes = omega arith in
                absurd (true≢false (sym at ∙ ap (λ k. is_point (get_or bytes k 0)) e ∙ here))
          ]
    ]

digits_at : (bytes : List ℕ) (n : ℕ) → position_or_len is_point bytes ≡ n → digits_in bytes ≡ take n bytes ++ drop (n + 1) bytes
digits_at bytes n e = ap (λ k. take k bytes ++ drop (k + 1) bytes) e

-- the first byte that is no digit, where there is a point
other_behind : (bytes : List ℕ) → run bytes < length bytes → is_point (get_or bytes (run bytes) 0) ≡ true → run bytes + 1 + run (drop (run bytes + 1) bytes) < length bytes → find other (digits_in bytes) ≡ Some (get_or bytes (run bytes + 1 + run (drop (run bytes + 1) bytes)) 0)
other_behind bytes lt here short =
    let at = run bytes in
    let front = find_none (take at bytes) (run_all bytes at (omega arith)) in
    let long = length-drop (at + 1) bytes in
    let back = find_other (drop (at + 1) bytes) (omega arith) in
    ap (find other) (digits_at bytes at (point_here bytes lt here))
    ∙ find-append other (take at bytes) (drop (at + 1) bytes)
    ∙ ap (λ o. option_or o (find other (drop (at + 1) bytes))) front.0
    ∙ back
    ∙ ap Some (get_or-drop (at + 1) bytes (run (drop (at + 1) bytes)) 0)

-- and where there is none at the end of the first run
other_before : (bytes : List ℕ) → run bytes < length bytes → is_point (get_or bytes (run bytes) 0) ≡ false → find other (digits_in bytes) ≡ Some (get_or bytes (run bytes) 0)
other_before bytes lt here =
    let n = position_or_len is_point bytes in
    let later = point_later bytes lt here in
    let within = prefix_len-le-length (λ b. not (is_point b)) bytes in
    let l = length-take-le n bytes within in
    let e = run_some bytes n later within in
    find-append other (take n bytes) (drop (n + 1) bytes)
    ∙ ap (λ o. option_or o (find other (drop (n + 1) bytes))) (find_other (take n bytes) (omega (arith, e)) ∙ ap (λ k. Some (get_or (take n bytes) k 0)) e ∙ ap Some (get_or-take n bytes (run bytes) 0 later))

-- ---- what the reader sees: the end of the run before the point, and of that behind it
in_bytes : (bytes : List ℕ) (at : ℕ) → get_or bytes at 0 ≡ 46 → at < length bytes
in_bytes bytes at e = elim (cases_lt at (length bytes)) [
  | inl less ↦ less
  | inr more ↦ absurd (omega (arith, get_or-eq_default bytes 0 more))
]

fault_by : (w : ℕ) (b : Bool) (bytes : List ℕ) (end : ℕ) → is_point (get_or bytes (run bytes) 0) ≡ b → end ≡ (if b then run bytes + 1 + run (drop (run bytes + 1) bytes) else run bytes) → end < length bytes → fault_of w (digits_in bytes) ≡ Some (fault_at w (get_or bytes end 0))
fault_by w true bytes end here e lt = rw e (fault_first w (digits_in bytes) _ (other_behind bytes (in_bytes bytes (run bytes) (eqb-true _ 46 here)) here (omega arith)))
fault_by w false bytes end here e lt = rw e (fault_first w (digits_in bytes) _ (other_before bytes (omega arith) here))

pub fault_here : (w : ℕ) (bytes : List ℕ) (at end : ℕ) → at ≡ 0 + run (drop 0 bytes) → end ≡ part_end bytes at → end < length bytes → fault_of w (digits_in bytes) ≡ Some (fault_at w (get_or bytes end 0))
fault_here w bytes at end a e lt =
    let f : at ≡ run bytes = a ∙ zero-add (run bytes) in
    fault_by w (is_point (get_or bytes (run bytes) 0)) bytes end refl (e ∙ ap (part_end bytes) f) lt

clear : (bytes : List ℕ) (n : ℕ) → position_or_len is_point bytes ≡ n → list_all is_ascii_digit (take n bytes) ≡ true → list_all is_ascii_digit (drop (n + 1) bytes) ≡ true → find other (take n bytes ++ drop (n + 1) bytes) ≡ None → 0 < length (take n bytes ++ drop (n + 1) bytes) → IsPointAt bytes n
clear bytes n e front back none some = record {
  place = e;
  digits = ap (list_all is_ascii_digit) (digits_at bytes n e) ∙ list_all-append is_ascii_digit (take n bytes) (drop (n + 1) bytes) ∙ both_true front back;
  free = λ w. ap (fault_of w) (digits_at bytes n e) ∙ fault_free w (take n bytes ++ drop (n + 1) bytes) none some;
}

joined_none : (xs ys : List ℕ) → find other xs ≡ None → find other ys ≡ None → find other (xs ++ ys) ≡ None
joined_none xs ys e f = find-append other xs ys ∙ ap (λ o. option_or o (find other ys)) e ∙ f

clear_by : (b : Bool) (bytes : List ℕ) (end : ℕ) → is_point (get_or bytes (run bytes) 0) ≡ b → end ≡ (if b then run bytes + 1 + run (drop (run bytes + 1) bytes) else run bytes) → length bytes ≤ end → (end ≡ min (end - run bytes) 1 → ⊥) → IsPointAt bytes (run bytes)
clear_by true bytes end here e le some =
    let at = run bytes in
    let lt = in_bytes bytes at (eqb-true _ 46 here) in
    let long = length-drop (at + 1) bytes in
    let fit = prefix_len-le-length is_ascii_digit (drop (at + 1) bytes) in
    let front = find_none (take at bytes) (run_all bytes at (omega arith)) in
    let back = find_none (drop (at + 1) bytes) (omega arith) in
    let l = length-take-le at bytes (omega arith) in
    let sum = length-append (take at bytes) (drop (at + 1) bytes) in
    clear bytes at (point_here bytes lt here) front.1 back.1 (joined_none (take at bytes) (drop (at + 1) bytes) front.0 back.0) (pos_of at bytes end lt (λ z. some (omega arith)) sum)
  where
    pos_of : (at : ℕ) (bytes : List ℕ) (end : ℕ) → at < length bytes → (length bytes ≡ 1 → ⊥) → length (take at bytes ++ drop (at + 1) bytes) ≡ length (take at bytes) + length (drop (at + 1) bytes) → 0 < length (take at bytes ++ drop (at + 1) bytes)
    pos_of at bytes end lt ne sum =
        let l = length-take-le at bytes (omega arith) in
        let d = length-drop (at + 1) bytes in
        elim (cases_lt 1 (length bytes)) [
          | inl more ↦ omega arith
          | inr one ↦ absurd (ne (omega arith))
        ]
clear_by false bytes end here e le some =
    let at = run bytes in
    let fit = prefix_len-le-length is_ascii_digit bytes in
    let full : run bytes ≡ length bytes = omega arith in
    let front = find_none (take at bytes) (run_all bytes at (omega arith)) in
    let gone : drop (at + 1) bytes ≡ [] = drop_all (at + 1) bytes (omega arith) in
    let l = length-take-le at bytes (omega arith) in
    let sum = length-append (take at bytes) (drop (at + 1) bytes) in
    clear bytes at (point_none bytes full ∙ sym full) front.1 (ap (list_all is_ascii_digit) gone) (joined_none (take at bytes) (drop (at + 1) bytes) front.0 (ap (find other) gone)) (positive at (length bytes) _ (λ z. some (omega arith)) (omega arith))
  where
    positive : (at n m : ℕ) → (at ≡ 0 → ⊥) → at ≤ m → 0 < m
    positive zero n m ne le = absurd (ne refl)
    positive (suc at) n m ne le = omega arith

pub point_clear : (bytes : List ℕ) (at end : ℕ) → at ≡ 0 + run (drop 0 bytes) → end ≡ part_end bytes at → length bytes ≤ end → (end ≡ min (end - at) 1 → ⊥) → IsPointAt bytes at
point_clear bytes at end a e le some =
    let f : at ≡ run bytes = a ∙ zero-add (run bytes) in
    rw f (clear_by (is_point (get_or bytes (run bytes) 0)) bytes end refl (e ∙ ap (part_end bytes) f) le (λ z. some (z ∙ ap (λ k. min (end - k) 1) (sym f))))

pub point_seen : (w b : ℕ) → b ≡ 46 → fault_at w b ≡ TooManyPoints
point_seen w b e = ap (fault_at w) e

pub point_other : (w b : ℕ) → (b ≡ 46 → ⊥) → fault_at w b ≡ InvalidDigit w
point_other w b ne = ap (λ t. if t then TooManyPoints else InvalidDigit w) (ne_eqb b 46 ne)

-- ---- the place of a byte that is neither a digit nor a point
or_true : (a : Bool) → (a || true) ≡ true
or_true true = refl
or_true false = refl

by_digit : (c : ℕ) → is_ascii_digit c ≡ true → (is_ascii_digit c || is_point c) ≡ true
by_digit c h = ap (λ t. t || is_point c) h

by_point : (c : ℕ) → is_point c ≡ true → (is_ascii_digit c || is_point c) ≡ true
by_point c h = ap (λ t. is_ascii_digit c || t) h ∙ or_true (is_ascii_digit c)

by_neither : (c : ℕ) → is_ascii_digit c ≡ false → is_point c ≡ false → (is_ascii_digit c || is_point c) ≡ false
by_neither c h p = ap (λ t. t || is_point c) h ∙ p

lead_by : (b : Bool) (bytes : List ℕ) (end : ℕ) → is_point (get_or bytes (run bytes) 0) ≡ b → end ≡ (if b then run bytes + 1 + run (drop (run bytes + 1) bytes) else run bytes) → end < length bytes → is_point (get_or bytes end 0) ≡ false → lead bytes ≡ end
lead_by false bytes end here e lt clear =
    rw e (prefix_len_is (λ c. is_ascii_digit c || is_point c) bytes (run bytes) 0 (omega arith)
    (λ k less. by_digit (get_or bytes k 0) (prefix_len_passes is_ascii_digit bytes k 0 less))
    (λ less. by_neither (get_or bytes (run bytes) 0) (prefix_len_stops is_ascii_digit bytes 0 less) here))
lead_by true bytes end here e lt clear =
    let at = run bytes in
    let back = drop (at + 1) bytes in
    let long = length-drop (at + 1) bytes in
    let seen : get_or bytes end 0 ≡ get_or back (run back) 0 = ap (λ k. get_or bytes k 0) e ∙ sym (get_or-drop (at + 1) bytes (run back) 0) in
    let passes : (k : ℕ) → k < end → (is_ascii_digit (get_or bytes k 0) || is_point (get_or bytes k 0)) ≡ true = λ k less. elim (cases_lt k at) [
      | inl front ↦ by_digit (get_or bytes k 0) (prefix_len_passes is_ascii_digit bytes k 0 front)
      | inr later ↦ elim (cases_lt at k) [
        | inl behind ↦
            let e2 : at + 1 + (k - (at + 1)) ≡ k = omega arith in
            by_digit (get_or bytes k 0) (ap (λ n. is_ascii_digit (get_or bytes n 0)) (sym e2) ∙ ap is_ascii_digit (sym (get_or-drop (at + 1) bytes (k - (at + 1)) 0)) ∙ prefix_len_passes is_ascii_digit back (k - (at + 1)) 0 (omega arith))
        | inr same ↦
            let e3 : k ≡ at = omega arith in
            by_point (get_or bytes k 0) (ap (λ n. is_point (get_or bytes n 0)) e3 ∙ here)
      ]
    ] in
    prefix_len_is (λ c. is_ascii_digit c || is_point c) bytes end 0 (omega arith) passes
    (λ less. by_neither (get_or bytes end 0) (ap is_ascii_digit seen ∙ prefix_len_stops is_ascii_digit back 0 (omega arith)) clear)

pub lead_here : (bytes : List ℕ) (at end : ℕ) → at ≡ 0 + run (drop 0 bytes) → end ≡ part_end bytes at → end < length bytes → (get_or bytes end 0 ≡ 46 → ⊥) → lead bytes ≡ end
lead_here bytes at end a e lt ne =
    let f : at ≡ run bytes = a ∙ zero-add (run bytes) in
    lead_by (is_point (get_or bytes (run bytes) 0)) bytes end refl (e ∙ ap (part_end bytes) f) lt (ne_eqb (get_or bytes end 0) 46 ne)

-- a point and a digit behind it, or none
pub byte_is : (at end : ℕ) → min (end - at) 1 ≡ bool_byte (nat_lt at end)
byte_is at end = grind (arith, nat_tests)
