-- A filter over a block: the past after each sample, and the outputs so far.
use Rattle.std.proofs.Common.{◌≡◌, ◌+◌, ◌-◌, ◌<◌, ◌≤◌, ℕ, zero, suc, ℤ, List, [], ◌∷◌, ◌++◌, length, get_or, set, take, drop, map, replicate, Some, refl, sym, ap, ◌∙◌, arith, inl, inr}
use Rattle.std.specs.Prelude.{IfErr, Result, Ok, Err, reverse, slice_get, slice_range}
use Rattle.std.specs.List.{zip}
use Rattle.std.specs.Option.{option_map}
use Rattle.std.proofs.lemmas.Bool.{cases_lt}
use Rattle.std.proofs.lemmas.List.{length-take-le, length-append, length-drop, length-reverse, length-set, length-map, take-append-drop, take-append-le, take-take, take_all, take_at, take_more, take-map, drop-drop, drop-take, drop-set-lt, map-append, reverse-append, get_or_default, get_or-set_same, get_or-set_other}
use Rattle.std.proofs.lemmas.Option.{slice_get-get_or}
use Rattle.std.proofs.lemmas.Simd.{map-map}
use Rattle.fixed_policy.specs.DotProduct.{pairs}
use Rattle.fixed_filter.specs.declared.overflow.BlockOverflow.{BlockOverflow}
use Rattle.fixed_filter.specs.declared.reply.Reply.{Reply}
use Rattle.fixed_filter.specs.declared.reply.Reply.TheVariants.{Value}
use Rattle.fixed_filter.specs.Blocks.{past_after, reply_at, AreReplies, StopsAt}

-- ---- the past
-- one more sample stands in front
pub in_front : {X : Type 0} (x : X) (past : List X) → 0 < length past → take (length past) (x ∷ past) ≡ x ∷ take (length past - 1) past
in_front x [] h = absurd (omega arith)
in_front x (y ∷ ys) h =
    let n : length ys ≡ length (y ∷ ys) - 1 = omega arith in
    ap (λ (k : ℕ). x ∷ take k (y ∷ ys)) n

module _ {X : Type 0} where
  all_but_one : (j : ℕ) (zs : List X) → suc j ≤ length zs → take (suc j) zs ≡ take (suc j) zs → take (length (take (suc j) zs) - 1) (take (suc j) zs) ≡ take j zs
  all_but_one j zs h e =
      let n : length (take (suc j) zs) - 1 ≡ j = omega (arith, length-take-le (suc j) zs h) in
      ap (λ (k : ℕ). take k (take (suc j) zs)) n ∙ take-take j (suc j) zs (omega arith)

  more_by : (k : ℕ) (past samples : List X) (x : X) → length past ≡ suc k → past_after past (samples ++ x ∷ []) ≡ x ∷ take (length (past_after past samples) - 1) (past_after past samples)
  more_by k past samples x e =
      let zs = reverse samples ++ past in
      let long : suc k ≤ length zs = omega (arith, length-append (reverse samples) past) in
      ap (λ (ys : List X). take (length past) (ys ++ past)) (reverse-append samples (x ∷ []))
      ∙ ap (λ (n : ℕ). take n (x ∷ zs)) e
      ∙ ap (λ (ys : List X). x ∷ ys) (sym (all_but_one k zs long refl))
      ∙ ap (λ (n : ℕ). x ∷ take (length (take n zs) - 1) (take n zs)) (sym e)

  pub one_more_sample : (past samples : List X) (x : X) → 0 < length past → past_after past (samples ++ x ∷ []) ≡ x ∷ take (length (past_after past samples) - 1) (past_after past samples)
  one_more_sample [] samples x h = absurd (omega arith)
  one_more_sample (y ∷ ys) samples x h = more_by (length ys) (y ∷ ys) samples x refl

  -- as many samples or more leave nothing of what was
  pub newest : (past samples : List X) → length past ≤ length samples → past_after past samples ≡ reverse (drop (length samples - length past) samples)
  newest past samples h =
      let m = length samples - length past in
      let long : length past ≤ length (reverse samples) = omega (arith, length-reverse samples) in
      let count : length (reverse (drop m samples)) ≡ length past = omega (arith, length-reverse (drop m samples), length-drop m samples) in
      take-append-le (length past) (reverse samples) past long
      ∙ ap (λ (ys : List X). take (length past) (reverse ys)) (sym (take-append-drop m samples))
      ∙ ap (take (length past)) (reverse-append (take m samples) (drop m samples))
      ∙ take_at (reverse (drop m samples)) (reverse (take m samples)) (length past) count

  pub window : (past samples : List X) (i : ℕ) → i < length samples → length past ≤ i → past_after past (take (i + 1) samples) ≡ reverse (slice_range samples (i + 1 - length past) (i + 1))
  window past samples i there far =
      let count : length (take (i + 1) samples) ≡ i + 1 = length-take-le (i + 1) samples (omega arith) in
      let n = i + 1 - length past in
      let end : n + (i + 1 - n) ≡ i + 1 = omega arith in
      newest past (take (i + 1) samples) (omega arith)
      ∙ ap (λ (m : ℕ). reverse (drop (m - length past) (take (i + 1) samples))) count
      ∙ ap (λ (m : ℕ). reverse (drop n (take m samples))) (sym end)
      ∙ ap reverse (drop-take n (i + 1 - n) samples)

  pub after_none : (n : ℕ) (past : List X) → past_after past (take n []) ≡ past
  after_none zero past = take_all (length past) past (omega arith)
  after_none (suc n) past = take_all (length past) past (omega arith)

  -- a past with room for k samples, in a block
  short : (k i : ℕ) (samples : List X) → i ≤ k → i ≤ length samples → take k (take i samples) ≡ take i samples
  short k i samples h there = take_all k (take i samples) (omega (arith, length-take-le i samples there))

  -- the past after the first i samples takes one more
  pub near : (before samples past : List X) (i : ℕ) (x : X) → i < length samples → i < length before → x ≡ get_or samples i x → past ≡ past_after before (take (length before) (take i samples)) → x ∷ take (length past - 1) past ≡ past_after before (take (i + 1) samples)
  near before samples past i x there room is_x is_past =
      let now = is_past ∙ ap (past_after before) (short (length before) i samples (omega arith) (omega arith)) in
      ap (λ (p : List X). x ∷ take (length p - 1) p) now
      ∙ sym (one_more_sample before (take i samples) x (omega arith))
      ∙ ap (λ (z : X). past_after before (take i samples ++ z ∷ [])) is_x
      ∙ ap (past_after before) (sym (take_more samples i x there))

  pub near_kept : (before samples : List X) (i : ℕ) → i < length samples → i < length before → past_after before (take (i + 1) samples) ≡ past_after before (take (length before) (take (i + 1) samples))
  near_kept before samples i there room = ap (past_after before) (sym (short (length before) (i + 1) samples (omega arith) (omega arith)))

  pub far_kept : (before samples : List X) (i : ℕ) → length before ≤ i → past_after before (take (length before) (take i samples)) ≡ past_after before (take (length before) (take (i + 1) samples))
  far_kept before samples i far =
      ap (past_after before) (take-take (length before) i samples far ∙ sym (take-take (length before) (i + 1) samples (omega arith)))

  -- the past at the end of a block
  pub at_end : (before samples : List X) → length samples ≤ length before → past_after before (take (length before) samples) ≡ past_after before samples
  at_end before samples h = ap (past_after before) (take_all (length before) samples h)

  -- an element of a list
  some_at : (samples : List X) (i : ℕ) → i < length samples → (x : X) × (x ≡ get_or samples i x)
  some_at [] i h = absurd (omega (arith, h))
  some_at (y ∷ ys) i h = (get_or (y ∷ ys) i y, get_or_default (y ∷ ys) i y (get_or (y ∷ ys) i y) h)

  length_after : (past samples : List X) → length (past_after past samples) ≡ length past
  length_after past samples = length-take-le (length past) (reverse samples ++ past) (omega (arith, length-append (reverse samples) past))

  -- the newest samples of a block are kept where they are more than the past has room for
  pub newest_kept : (before samples past past' : List X) → past ≡ past_after before (take (length before) samples) → (length past < length samples → past' ≡ reverse (drop (length samples - length past) samples)) → (length samples ≤ length past → past' ≡ past) → past' ≡ past_after before samples
  newest_kept before samples past past' is_past is_newest is_kept =
      let long : length past ≡ length before = ap length is_past ∙ length_after before (take (length before) samples) in
      elim (cases_lt (length past) (length samples)) [
        | inl more ↦
            is_newest more
            ∙ ap (λ (n : ℕ). reverse (drop (length samples - n) samples)) long
            ∙ sym (newest before samples (omega (arith, long)))
        | inr fewer ↦ is_kept fewer ∙ is_past ∙ at_end before samples (omega (arith, long))
      ]

-- one sample on: by what the past is where the taps reach back before the block, and where they do not
module _ {X : Type 0} (before samples past past' : List X) (i k : ℕ) (e : k ≡ length before) (there : i < length samples) (is_past : past ≡ past_after before (take (length before) (take i samples))) (is_near : i < k → (x : X) → x ≡ get_or samples i x → past' ≡ x ∷ take (length past - 1) past) (is_far : k ≤ i → past' ≡ past) where
  near_now : i < k → past' ≡ past_after before (take (i + 1) samples)
  near_now h =
      let x = some_at samples i there in
      is_near h x.0 x.1 ∙ near before samples past i x.0 there (omega (arith, e)) x.1 is_past

  pub past_next : past' ≡ past_after before (take (length before) (take (i + 1) samples))
  past_next =
      elim (cases_lt i k) [
        | inl h ↦ near_now h ∙ near_kept before samples i there (omega (arith, e))
        | inr h ↦ is_far h ∙ is_past ∙ far_kept before samples i (omega (arith, e))
      ]

  pub reply_next : (reply : List X → Reply ℤ) (r : Reply ℤ) → (i < k → r ≡ reply past') → (k ≤ i → r ≡ reply (reverse (slice_range samples (i + 1 - k) (i + 1)))) → r ≡ reply_at reply before samples i
  reply_next reply r by_past by_window =
      elim (cases_lt i k) [
        | inl h ↦ by_past h ∙ ap reply (near_now h)
        | inr h ↦
            by_window h
            ∙ ap (λ (m : ℕ). reply (reverse (slice_range samples (i + 1 - m) (i + 1)))) e
            ∙ ap reply (sym (window before samples i there (omega (arith, e))))
      ]

-- ---- words and what holds them
map-reverse : {X Y : Type 0} (f : X → Y) (xs : List X) → map f (reverse xs) ≡ reverse (map f xs)
map-reverse f [] = refl
map-reverse f (x ∷ xs) =
    ap (map f) (reverse-append (x ∷ []) xs) ∙ map-append f (reverse xs) (x ∷ []) ∙ ap (λ zs. zs ++ f x ∷ []) (map-reverse f xs) ∙ sym (reverse-append (f x ∷ []) (map f xs))

pub past_map : {X Y : Type 0} (f : X → Y) (past samples : List X) → map f (past_after past samples) ≡ past_after (map f past) (map f samples)
past_map {X} {Y} f past samples =
    sym (take-map f (length past) (reverse samples ++ past))
    ∙ ap (take (length past)) (map-append f (reverse samples) past)
    ∙ ap (λ (ys : List Y). take (length past) (ys ++ map f past)) (map-reverse f samples)
    ∙ ap (λ (n : ℕ). take n (reverse (map f samples) ++ map f past)) (sym (length-map past f))

pub pushed_map : {X Y : Type 0} (f : X → Y) (x : X) (past : List X) → map f (x ∷ take (length past - 1) past) ≡ f x ∷ take (length (map f past) - 1) (map f past)
pushed_map {X} {Y} f x past =
    ap (λ (ys : List Y). f x ∷ ys) (sym (take-map f (length past - 1) past))
    ∙ ap (λ (n : ℕ). f x ∷ take (n - 1) (map f past)) (sym (length-map past f))

pub pairs_map : {X Y W : Type 0} (f : X → W) (h : Y → W) (value : W → ℤ) (xs : List X) (ys : List Y) → pairs (λ x. value (f x)) (λ y. value (h y)) xs ys ≡ pairs value value (map f xs) (map h ys)
pairs_map f h value xs ys =
    sym (ap (λ (zs : List ℤ). zip zs (map value (map h ys))) (map-map value f xs) ∙ ap (zip (map (λ x. value (f x)) xs)) (map-map value h ys))

module _ {X Y : Type 0} (f : X → Y) (by_number : List X → Reply ℤ) (by_word : List Y → Reply ℤ) (same : (ps : List X) → by_number ps ≡ by_word (map f ps)) (before samples : List X) where
  pub replies_map : (i : ℕ) → reply_at by_number before samples i ≡ reply_at by_word (map f before) (map f samples) i
  replies_map i =
      same (past_after before (take (i + 1) samples))
      ∙ ap by_word (past_map f before (take (i + 1) samples) ∙ ap (past_after (map f before)) (sym (take-map f (i + 1) samples)))

  pub stops_map : {U : Type 0} (r : Result U BlockOverflow) → IfErr r (StopsAt by_number before samples) → IfErr r (StopsAt by_word (map f before) (map f samples))
  stops_map (Ok u) h = h
  stops_map (Err stop) h =
      let there = h.0 in
      (omega (arith, length-map samples f), sym (replies_map stop.sample) ∙ h.1)

pub replicate_map : {X Y : Type 0} (f : X → Y) (n : ℕ) (x : X) → map f (replicate n x) ≡ replicate n (f x)
replicate_map f zero x = refl
replicate_map f (suc n) x = ap (λ ys. f x ∷ ys) (replicate_map f n x)

-- ---- the walk
-- past and out after i samples; the past has room for as many samples as it had
pub record IsAfter {X Y : Type 0} (reply : List X → Reply ℤ) (value : Y → ℤ) (before samples : List X) (old : List Y) (past : List X) (out : List Y) (i : ℕ) : Type 0 where
  pub outputs : AreReplies reply value before samples out i
  pub rest : drop i out ≡ drop i old
  pub past_is : past ≡ past_after before (take (length before) (take i samples))

-- what a write leaves of a list, one place at a time
slice_get-set_other : {Y : Type 0} (out : List Y) (i j : ℕ) (y : Y) → j < i → i < length out → slice_get (set out i y) j ≡ slice_get out j
slice_get-set_other out i j y before there =
    slice_get-get_or (set out i y) j y (omega (arith, length-set out i y))
    ∙ ap Some (get_or-set_other out i j y y (λ e. absurd (omega (arith, e))))
    ∙ sym (slice_get-get_or out j y (omega arith))

slice_get-set_same : {Y : Type 0} (out : List Y) (i : ℕ) (y : Y) → i < length out → slice_get (set out i y) i ≡ Some y
slice_get-set_same out i y there =
    slice_get-get_or (set out i y) i y (omega (arith, length-set out i y)) ∙ ap Some (get_or-set_same out i y y there)

module _ {X Y : Type 0} (reply : List X → Reply ℤ) (value : Y → ℤ) (before samples : List X) where
  -- one more output
  more_replies : (out : List Y) (i : ℕ) (y : Y) → i < length out → AreReplies reply value before samples out i → Value (value y) ≡ reply_at reply before samples i → AreReplies reply value before samples (set out i y) (i + 1)
  more_replies out i y there so_far is j below =
      elim (cases_lt j i) [
        | inl earlier ↦ ap (option_map (λ z. Value (value z))) (slice_get-set_other out i j y earlier there) ∙ so_far j earlier
        | inr last ↦ let same : j ≡ i = omega arith in
            ap (λ (k : ℕ). option_map (λ z. Value (value z)) (slice_get (set out i y) k)) same
            ∙ ap (option_map (λ z. Value (value z))) (slice_get-set_same out i y there)
            ∙ ap Some is
            ∙ ap (λ (k : ℕ). Some (reply_at reply before samples k)) (sym same)
      ]

  module _ (old : List Y) where
    pub begins : IsAfter reply value before samples old before old 0
    begins = record { outputs = λ i h. absurd (omega (arith, h)); rest = refl; past_is = sym (after_none (length before) before) }

    -- one sample on
    module _ (past : List X) (out : List Y) (i : ℕ) (y : Y) (room : i < length out) (a : IsAfter reply value before samples old past out i) where
      pub writes : (past' : List X) → past' ≡ past_after before (take (length before) (take (i + 1) samples)) → Value (value y) ≡ reply_at reply before samples i → IsAfter reply value before samples old past' (set out i y) (i + 1)
      writes past' is_past is_reply = record {
        outputs = more_replies out i y room a.outputs is_reply;
        rest = drop-set-lt (i + 1) out i y (omega arith) ∙ one_less;
        past_is = is_past;
      }
        where
          one_less : drop (i + 1) out ≡ drop (i + 1) old
          one_less = sym (drop-drop 1 i out) ∙ ap (drop 1) a.rest ∙ drop-drop 1 i old
