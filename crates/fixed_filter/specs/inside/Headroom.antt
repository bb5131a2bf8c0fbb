-- Filters whose partial sums fit, so that no tap needs a test.
use Rattle.std.specs.Prelude.{◌≡◌, ◌+◌, ◌-◌, ◌*◌, ◌/◌, ◌^◌, ◌<◌, ◌≤◌, ℕ, ℤ, pos, Bool, true, false, List, length, reverse, slice_range, unsigned_abs}
use Rattle.std.specs.List.{All, sum_by}
use Rattle.fixed_word.specs.Format.{InRange, highest, wrap}
use Rattle.fixed_policy.specs.DotProduct.{pairs}
use Rattle.fixed_filter.specs.declared.reply.Reply.TheVariants.{Value}
use Rattle.fixed_filter.specs.Replies.{accumulator, filter_reply}

-- by how many units at most k products of words are rounded below 0: products of unsigned words are not
abbrev pub roundings : Bool → ℕ → ℕ
roundings true k = k
roundings false k = 0

-- products move down by so many places, and the partial sums of so many taps fit, whose magnitudes add up to weight, for
-- all samples whose magnitudes are at most peak
pub record HasRoom (signed : Bool) (n : ℕ) (s : ℤ) (weight peak count down : ℕ) : Type 0 where
  pub places : s ≡ pos down
  pub most : down ≤ n
  pub room : weight * peak / 2 ^ down + roundings signed count ≤ unsigned_abs (highest signed n)

-- the magnitudes of the taps add up to weight, no past sample has a magnitude above peak, and all are numbers of a word
pub record IsBounded {T : Type 0} (value : T → ℤ) (signed : Bool) (n : ℕ) (taps past : List T) (weight peak : ℕ) : Type 0 where
  pub total : weight ≡ sum_by (λ a. unsigned_abs (value a)) taps
  pub most : All (λ x. unsigned_abs (value x) ≤ peak) past
  pub taps_in_range : All (λ a. InRange signed n (value a)) taps
  pub past_in_range : All (λ x. InRange signed n (value x)) past

-- products move down by so many places, and the reply to each sample after which a block has a whole window is the
-- sum of the products, wrapped
pub record IsUntested {X Y : Type 0} (left : X → ℤ) (right : Y → ℤ) (signed : Bool) (n : ℕ) (s : ℤ) (taps : List X) (samples : List Y) (down : ℕ) : Type 0 where
  pub places : s ≡ pos down
  pub most : down ≤ n
  pub replies : (i : ℕ) → i < length samples → length taps ≤ i
      → filter_reply signed n s (pairs left right taps (reverse (slice_range samples (i + 1 - length taps) (i + 1))))
      ≡ Value (wrap signed n (accumulator s (pairs left right taps (reverse (slice_range samples (i + 1 - length taps) (i + 1)))) (length taps)))
