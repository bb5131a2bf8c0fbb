-- A run as it is kept prints what the samples alone say.
use Rattle.std.proofs.Common.{◌≡◌, ◌+◌, ◌%◌, ◌^◌, ◌<◌, ◌≤◌, ℕ, zero, suc, ℤ, pos, Bool, true, false, List, [], ◌∷◌, ◌++◌, length, replicate, take, Option, Some, None, cond, refl, sym, ap, subst, ◌∙◌, arith, eqb, eq-eqb}
use Rattle.std.specs.Prelude.{slice_index_or, nat_lt}
use Rattle.std.specs.List.{zip, list_all}
use Rattle.std.proofs.lemmas.Bool.Decides.{nat_tests}
use Rattle.fixed_word.specs.Format.{fits}
use Rattle.fixed_text.specs.Readings.{Reading, Malformed, Misfit, Read, in_range, read_map, fitting_number, fitting_numbers}
use Rattle.fixed_text.proofs.Turns.{keep_moved}
use Rattle.fixed_filter.specs.declared.shape.Shape.{Shape}
use Rattle.fixed_filter.specs.Banks.{Filter, change_at, fresh, places_of, with_sample}
use Rattle.fixed_filter.specs.Replies.{filter_reply}
use Rattle.fixed_filter.specs.Outputs.{own, past_of, reply_after, taps_at}
use Rattle.fixed_filter.specs.Text.{FilterLine, Taps, Sample}
use Rattle.fixed_filter.specs.Lines.{line_of}
use Rattle.fixed_filter.specs.Runs.{FilterState, with_taps, with_own, has_begun, reply_text, answer_text, taps_read, sample_read, line_read, filter_line}
use Rattle.fixed_filter.specs.inside.Kept.{KeptState, lane_at, kept_taps, kept_sample, kept_text, kept_taps_read, kept_sample_read, kept_read, kept_line}
use Rattle.fixed_filter.proofs.Past.{one_more_sample}

-- the channels from i on, and how many samples each had
abbrev pub lanes : ℕ → List (List ℤ) → List (ℕ × ℤ) → List (Filter ℤ)
lanes i [] before = []
lanes i (taps ∷ rest) before = record { taps = taps; past = past_of (length taps) (own i before) } ∷ lanes (suc i) rest before

abbrev pub counts_of : ℕ → List (List ℤ) → List (ℕ × ℤ) → List ℕ
counts_of i [] before = []
counts_of i (taps ∷ rest) before = length (own i before) ∷ counts_of (suc i) rest before

abbrev pub keep : FilterState → KeptState
keep t = record { signed = t.signed; bits = t.bits; shape = t.shape; channels = lanes 0 t.bank t.before; counts = counts_of 0 t.bank t.before; begun = has_begun t.before }

-- each channel has a tap
abbrev pub AllSome : List (List ℤ) → Type 0
AllSome [] = Unit {0}
AllSome (taps ∷ rest) = (0 < length taps) × AllSome rest

all_some-push : (bank : List (List ℤ)) (taps : List ℤ) → AllSome bank → 0 < length taps → AllSome (bank ++ taps ∷ [])
all_some-push [] taps a h = (h, tt)
all_some-push (t ∷ rest) taps a h = (a.0, all_some-push rest taps a.1 h)

-- as many pieces are left as can be counted
abbrev pub Fine : FilterState → ℕ → Type 0
Fine state left = AllSome state.bank × (length state.before + left < 2 ^ 64)

-- ---- a channel's own samples
pub own_here : (m i : ℕ) (x : ℤ) (before : List (ℕ × ℤ)) → m ≡ i → own i ((m, x) ∷ before) ≡ x ∷ own i before
own_here m i x before e = ap (λ (b : Bool). cond b (x ∷ own i before) (own i before)) (eq-eqb m i e)

own_there : (m i : ℕ) (x : ℤ) (before : List (ℕ × ℤ)) → (m ≡ i → ⊥) → own i ((m, x) ∷ before) ≡ own i before
own_there m i x before n =
    let other : eqb m i ≡ false = grind (arith, nat_tests) in
    ap (λ (b : Bool). cond b (x ∷ own i before) (own i before)) other

-- ---- lengths
own_length : (i : ℕ) (before : List (ℕ × ℤ)) → length (own i before) ≤ length before
own_length i [] = omega arith
own_length i (e ∷ es) = by_test (eqb e.0 i) (own_length i es)
  where
    by_test : (b : Bool) → length (own i es) ≤ length es → length (cond b (e.1 ∷ own i es) (own i es)) ≤ suc (length es)
    by_test true few = omega arith
    by_test false few = omega arith

lanes_length : (i : ℕ) (bank : List (List ℤ)) (before : List (ℕ × ℤ)) → length (lanes i bank before) ≡ length bank
lanes_length i [] before = refl
lanes_length i (taps ∷ rest) before = ap suc (lanes_length (suc i) rest before)

-- ---- a sample of a channel before these leaves them
lanes_after : (i m : ℕ) (x : ℤ) (bank : List (List ℤ)) (before : List (ℕ × ℤ)) → m < i → lanes i bank before ≡ lanes i bank ((m, x) ∷ before)
lanes_after i m x [] before h = refl
lanes_after i m x (taps ∷ rest) before h =
    let e = own_there m i x before (λ same. omega arith) in
    ap (λ (xs : List ℤ). record { taps = taps; past = past_of (length taps) xs } ∷ lanes (suc i) rest before) (sym e)
    ∙ ap (λ (ls : List (Filter ℤ)). record { taps = taps; past = past_of (length taps) (own i ((m, x) ∷ before)) } ∷ ls) (lanes_after (suc i) m x rest before (omega arith))

counts_after : (i m : ℕ) (x : ℤ) (bank : List (List ℤ)) (before : List (ℕ × ℤ)) → m < i → counts_of i bank before ≡ counts_of i bank ((m, x) ∷ before)
counts_after i m x [] before h = refl
counts_after i m x (taps ∷ rest) before h =
    let e = own_there m i x before (λ same. omega arith) in
    ap (λ (xs : List ℤ). length xs ∷ counts_of (suc i) rest before) (sym e)
    ∙ ap (λ (ns : List ℕ). length (own i ((m, x) ∷ before)) ∷ ns) (counts_after (suc i) m x rest before (omega arith))

-- ---- a sample of one of these
lanes_sample : (i j m : ℕ) (x : ℤ) (bank : List (List ℤ)) (before : List (ℕ × ℤ)) → m ≡ i + j → j < length bank → AllSome bank → change_at j (with_sample x) (lanes i bank before) ≡ lanes i bank ((m, x) ∷ before)
lanes_sample i j m x [] before e h a = absurd (omega arith)
lanes_sample i zero m x (taps ∷ rest) before e h a =
    let here = own_here m i x before (omega arith) in
    ap (λ (past : List ℤ). record { taps = taps; past = past } ∷ lanes (suc i) rest before) (one_more_sample (length taps) x (own i before) a.0 ∙ ap (past_of (length taps)) (sym here))
    ∙ ap (λ (ls : List (Filter ℤ)). record { taps = taps; past = past_of (length taps) (own i ((m, x) ∷ before)) } ∷ ls) (lanes_after (suc i) m x rest before (omega arith))
lanes_sample i (suc j) m x (taps ∷ rest) before e h a =
    let there = own_there m i x before (λ same. omega arith) in
    ap (λ (xs : List ℤ). record { taps = taps; past = past_of (length taps) xs } ∷ change_at j (with_sample x) (lanes (suc i) rest before)) (sym there)
    ∙ ap (λ (ls : List (Filter ℤ)). record { taps = taps; past = past_of (length taps) (own i ((m, x) ∷ before)) } ∷ ls) (lanes_sample (suc i) j m x rest before (omega arith) (omega arith) a.1)

counts_sample : (i j m : ℕ) (x : ℤ) (bank : List (List ℤ)) (before : List (ℕ × ℤ)) → m ≡ i + j → j < length bank → length before + 1 < 2 ^ 64 → change_at j (λ n. (n + 1) % 2 ^ 64) (counts_of i bank before) ≡ counts_of i bank ((m, x) ∷ before)
counts_sample i j m x [] before e h few = absurd (omega arith)
counts_sample i zero m x (taps ∷ rest) before e h few =
    let here = own_here m i x before (omega arith) in
    let own_few = own_length i before in
    let more : (length (own i before) + 1) % 2 ^ 64 ≡ length (x ∷ own i before) = omega arith in
    ap (λ (n : ℕ). n ∷ counts_of (suc i) rest before) (more ∙ ap length (sym here))
    ∙ ap (λ (ns : List ℕ). length (own i ((m, x) ∷ before)) ∷ ns) (counts_after (suc i) m x rest before (omega arith))
counts_sample i (suc j) m x (taps ∷ rest) before e h few =
    let there = own_there m i x before (λ same. omega arith) in
    ap (λ (xs : List ℤ). length xs ∷ change_at j (λ n. (n + 1) % 2 ^ 64) (counts_of (suc i) rest before)) (sym there)
    ∙ ap (λ (ns : List ℕ). length (own i ((m, x) ∷ before)) ∷ ns) (counts_sample (suc i) j m x rest before (omega arith) (omega arith) few)

-- ---- one of these
lane_is : (i j m : ℕ) (bank : List (List ℤ)) (before : List (ℕ × ℤ)) → m ≡ i + j → j < length bank → lane_at (lanes i bank before) j ≡ record { taps = taps_at bank j; past = past_of (length (taps_at bank j)) (own m before) }
lane_is i j m [] before e h = absurd (omega arith)
lane_is i zero m (taps ∷ rest) before e h =
    let same : i ≡ m = omega arith in
    ap (λ (k : ℕ). record { taps = taps; past = past_of (length taps) (own k before) }) same
lane_is i (suc j) m (taps ∷ rest) before e h = lane_is (suc i) j m rest before (omega arith) (omega arith)

count_is : (i j m : ℕ) (bank : List (List ℤ)) (before : List (ℕ × ℤ)) → m ≡ i + j → j < length bank → slice_index_or (counts_of i bank before) j 0 ≡ length (own m before)
count_is i j m [] before e h = absurd (omega arith)
count_is i zero m (taps ∷ rest) before e h =
    let same : i ≡ m = omega arith in
    ap (λ (k : ℕ). length (own k before)) same
count_is i (suc j) m (taps ∷ rest) before e h = count_is (suc i) j m rest before (omega arith) (omega arith)

-- ---- one more channel, before all samples
take_zeros : (k : ℕ) → take k (replicate k (pos 0)) ≡ replicate k (pos 0)
take_zeros zero = refl
take_zeros (suc k) = ap (λ (zs : List ℤ). pos 0 ∷ zs) (take_zeros k)

lanes_taps : (i : ℕ) (bank : List (List ℤ)) (taps : List ℤ) → lanes i bank [] ++ fresh (pos 0) taps ∷ [] ≡ lanes i (bank ++ taps ∷ []) []
lanes_taps i [] taps = ap (λ (zs : List ℤ). record { taps = taps; past = zs } ∷ []) (sym (take_zeros (length taps)))
lanes_taps i (t ∷ rest) taps = ap (λ (ls : List (Filter ℤ)). record { taps = t; past = past_of (length t) [] } ∷ ls) (lanes_taps (suc i) rest taps)

counts_taps : (i : ℕ) (bank : List (List ℤ)) (taps : List ℤ) → counts_of i bank [] ++ 0 ∷ [] ≡ counts_of i (bank ++ taps ∷ []) []
counts_taps i [] taps = refl
counts_taps i (t ∷ rest) taps = ap (λ (ns : List ℕ). 0 ∷ ns) (counts_taps (suc i) rest taps)

-- ---- a line
module _ (signed : Bool) (bits : ℕ) (shape : Shape) (bank : List (List ℤ)) where
  state_with : List (ℕ × ℤ) → FilterState
  state_with before = record { signed = signed; bits = bits; shape = shape; bank = bank; before = before }

  km : FilterState × List ℕ → KeptState × List ℕ
  km = keep_moved filter_line kept_line keep Fine

  taps_alike : (before : List (ℕ × ℤ)) (xs : List ℤ) → kept_taps_read (keep (state_with before)) (Some xs) ≡ read_map km (taps_read (state_with before) xs)
  unfolding state_with km
  taps_alike (e ∷ es) xs = refl
  taps_alike [] xs = by_reading (fitting_numbers signed bits (Some xs))
    where
      by_reading : (r : Reading (List ℤ)) → read_map (λ taps. (kept_taps taps (keep (state_with [])), [])) r ≡ read_map km (read_map (λ taps. (with_taps taps (state_with []), [])) r)
      by_reading Malformed = refl
      by_reading Misfit = refl
      by_reading (Read ys) =
          let with_lanes = λ (ls : List (Filter ℤ)) (ns : List ℕ). let k : KeptState = record { signed = signed; bits = bits; shape = shape; channels = ls; counts = ns; begun = false } in k in
          ap (λ (ls : List (Filter ℤ)). Read (with_lanes ls (counts_of 0 bank [] ++ 0 ∷ []), [])) (lanes_taps 0 bank ys)
          ∙ ap (λ (ns : List ℕ). Read (with_lanes (lanes 0 (bank ++ ys ∷ []) []) ns, [])) (counts_taps 0 bank ys)

  sample_is : (before : List (ℕ × ℤ)) (j : ℕ) (y : ℤ) → j < length bank → AllSome bank → length before + 1 < 2 ^ 64 → (kept_sample j y (keep (state_with before)), kept_text (keep (state_with before)) j y) ≡ km (with_own j y (state_with before), answer_text (state_with before) j y)
  unfolding state_with km
  sample_is before j y h a few =
      let channels = lanes_sample 0 j j y bank before (omega arith) h a in
      let counts = counts_sample 0 j j y bank before (omega arith) h few in
      let number = count_is 0 j j bank before (omega arith) h in
      let lane = ap (λ (ls : List (Filter ℤ)). lane_at ls j) channels ∙ lane_is 0 j j bank ((j, y) ∷ before) (omega arith) h in
      let here = own_here j j y before refl in
      let s = places_of shape in
      let of_lane = λ (l : Filter ℤ). filter_reply signed bits s (zip l.taps l.past) in
      let of_past = λ (xs : List ℤ). reply_after signed bits s (taps_at bank j) xs in
      let with_lanes = λ (ls : List (Filter ℤ)) (ns : List ℕ). let k : KeptState = record { signed = signed; bits = bits; shape = shape; channels = ls; counts = ns; begun = true } in k in
      ap (λ (ls : List (Filter ℤ)). (with_lanes ls (change_at j (λ n. (n + 1) % 2 ^ 64) (counts_of 0 bank before)), kept_text (keep (state_with before)) j y)) channels
      ∙ ap (λ (ns : List ℕ). (with_lanes (lanes 0 bank ((j, y) ∷ before)) ns, kept_text (keep (state_with before)) j y)) counts
      ∙ ap (λ (n : ℕ). (keep (with_own j y (state_with before)), reply_text j n (of_lane (lane_at (change_at j (with_sample y) (lanes 0 bank before)) j)))) number
      ∙ ap (λ (l : Filter ℤ). (keep (with_own j y (state_with before)), reply_text j (length (own j before)) (of_lane l))) lane
      ∙ ap (λ (xs : List ℤ). (keep (with_own j y (state_with before)), reply_text j (length (own j before)) (of_past xs))) here

  sample_alike : (before : List (ℕ × ℤ)) (j : ℕ) (x : ℤ) → AllSome bank → length before + 1 < 2 ^ 64 → kept_sample_read (keep (state_with before)) j (Some x) ≡ read_map km (sample_read (state_with before) j x)
  unfolding state_with km
  sample_alike before j x a few =
      ap (λ (n : ℕ). in_range (nat_lt j n) (read_map (λ x. (kept_sample j x (keep (state_with before)), kept_text (keep (state_with before)) j x)) (fitting_number signed bits (Some x)))) (lanes_length 0 bank before)
      ∙ by_test (nat_lt j (length bank)) (λ e. grind (arith, nat_tests))
    where
      by_reading : (r : Reading ℤ) → j < length bank → read_map (λ x. (kept_sample j x (keep (state_with before)), kept_text (keep (state_with before)) j x)) r ≡ read_map km (read_map (λ x. (with_own j x (state_with before), answer_text (state_with before) j x)) r)
      by_reading Malformed h = refl
      by_reading Misfit h = refl
      by_reading (Read y) h = ap Read (sample_is before j y h a few)

      by_test : (b : Bool) → (b ≡ true → j < length bank) → in_range b (read_map (λ x. (kept_sample j x (keep (state_with before)), kept_text (keep (state_with before)) j x)) (fitting_number signed bits (Some x)))
          ≡ read_map km (in_range b (read_map (λ x. (with_own j x (state_with before), answer_text (state_with before) j x)) (fitting_number signed bits (Some x))))
      by_test false h = refl
      by_test true h = by_reading (fitting_number signed bits (Some x)) (h refl)

  line_alike : (before : List (ℕ × ℤ)) (o : Option FilterLine) → AllSome bank → length before + 1 < 2 ^ 64 → kept_read (keep (state_with before)) o ≡ read_map km (line_read (state_with before) o)
  unfolding state_with
  line_alike before None a few = refl
  line_alike before (Some (Taps c cs)) a few = taps_alike before (c ∷ cs)
  line_alike before (Some (Sample j x)) a few = sample_alike before j x a few

pub same : (s : FilterState) (b : List ℕ) (left : ℕ) → Fine s (suc left) → kept_line (keep s) b ≡ read_map (keep_moved filter_line kept_line keep Fine) (filter_line s b)
unfolding state_with km
same s b left fine =
    let room = fine.1 in
    line_alike s.signed s.bits s.shape s.bank s.before (line_of b) fine.0 (omega arith)

-- ---- that stays so throughout
read_same : {B : Type 0} (u v : B) → Read u ≡ Read v → u ≡ v
read_same u v e = cc

of_map : {A B : Type 0} (make : A → B) (P : B → Type 0) (r : Reading A) (y : B) → read_map make r ≡ Read y → ((x : A) → r ≡ Read x → P (make x)) → P y
of_map make P Malformed y e h = absurd (cc)
of_map make P Misfit y e h = absurd (cc)
of_map make P (Read x) y e h = subst P (read_same (make x) y e) (h x refl)

fitted_same : (s : Bool) (n : ℕ) (xs ys : List ℤ) → fitting_numbers s n (Some xs) ≡ Read ys → xs ≡ ys
fitted_same s n xs ys e = by_test (list_all (fits s n) xs) e
  where
    by_test : (b : Bool) → in_range b (Read xs) ≡ Read ys → xs ≡ ys
    by_test true e = cc
    by_test false e = absurd (cc)

taps_stay : (s : FilterState) (xs : List ℤ) (begun : Bool) (moved : FilterState × List ℕ) (left : ℕ) → Fine s (suc left) → 0 < length xs → cond begun Malformed (read_map (λ taps. (with_taps taps s, [])) (fitting_numbers s.signed s.bits (Some xs))) ≡ Read moved → Fine moved.0 left
taps_stay s xs true moved left fine h e = absurd (cc)
taps_stay s xs false moved left fine h e =
    let room = fine.1 in
    of_map (λ (taps : List ℤ). let m : FilterState × List ℕ = (with_taps taps s, []) in m) (λ m. Fine m.0 left) (fitting_numbers s.signed s.bits (Some xs)) moved e
    (λ ys is. (all_some-push s.bank ys fine.0 (subst (λ (zs : List ℤ). 0 < length zs) (fitted_same s.signed s.bits xs ys is) h), omega arith))

sample_stays : (s : FilterState) (j : ℕ) (x : ℤ) (test : Bool) (moved : FilterState × List ℕ) (left : ℕ) → Fine s (suc left) → in_range test (read_map (λ x. (with_own j x s, answer_text s j x)) (fitting_number s.signed s.bits (Some x))) ≡ Read moved → Fine moved.0 left
sample_stays s j x false moved left fine e = absurd (cc)
sample_stays s j x true moved left fine e =
    let room = fine.1 in
    of_map (λ (x : ℤ). let m : FilterState × List ℕ = (with_own j x s, answer_text s j x) in m) (λ m. Fine m.0 left) (fitting_number s.signed s.bits (Some x)) moved e (λ y is. (fine.0, omega arith))

line_stays : (s : FilterState) (o : Option FilterLine) (moved : FilterState × List ℕ) (left : ℕ) → Fine s (suc left) → line_read s o ≡ Read moved → Fine moved.0 left
line_stays s None moved left fine e = absurd (cc)
line_stays s (Some (Taps c cs)) moved left fine e = taps_stay s (c ∷ cs) (has_begun s.before) moved left fine (omega arith) e
line_stays s (Some (Sample j x)) moved left fine e = sample_stays s j x (nat_lt j (length s.bank)) moved left fine e

pub stays : (s : FilterState) (b : List ℕ) (moved : FilterState × List ℕ) (left : ℕ) → Fine s (suc left) → filter_line s b ≡ Read moved → Fine moved.0 left
stays s b moved left fine e = line_stays s (line_of b) moved left fine e
