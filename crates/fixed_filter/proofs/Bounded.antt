-- Taps and past samples whose magnitudes are bounded.
use Rattle.std.proofs.Common.{◌≡◌, ◌≤◌, ℕ, ℤ, pos, Bool, List, ◌∷◌, length, replicate, take, ap, sym, subst, ◌∙◌, arith}
use Rattle.std.specs.Prelude.{unsigned_abs}
use Rattle.std.specs.List.{All, sum_by}
use Rattle.std.proofs.lemmas.List.Elements.{All-cons, All-replicate, All-take, All-weaker}
use Rattle.fixed_word.specs.Format.{IsWidth, InRange, wrap}
use Rattle.fixed_policy.specs.DotProduct.{pairs}
use Rattle.fixed_filter.specs.declared.reply.Reply.TheVariants.{Value}
use Rattle.fixed_filter.specs.Replies.{accumulator, filter_reply}
use Rattle.fixed_filter.specs.inside.Headroom.{HasRoom, IsBounded}
use Rattle.fixed_filter.proofs.Untested.{reply_where_room, zero_in}

module _ {T : Type 0} (value : T → ℤ) (signed : Bool) (n : ℕ) (taps : List T) where
  -- before the first sample
  pub bounded_at_first : (z : T) (k weight : ℕ) → value z ≡ pos 0 → weight ≡ sum_by (λ a. unsigned_abs (value a)) taps → All (λ a. InRange signed n (value a)) taps
      → IsBounded value signed n taps (replicate k z) weight 0
  bounded_at_first z k weight is total ranges = record {
    total = total;
    most = All-replicate (λ x. unsigned_abs (value x) ≤ 0) k z (subst (λ (y : ℤ). unsigned_abs y ≤ 0) (sym is) (omega arith));
    taps_in_range = ranges;
    past_in_range = All-replicate (λ x. InRange signed n (value x)) k z (subst (InRange signed n) (sym is) (zero_in signed n));
  }

  -- one sample more
  pub bounded_next : (past : List T) (x : T) (k weight peak next : ℕ) → IsBounded value signed n taps past weight peak → peak ≤ next → unsigned_abs (value x) ≤ next → InRange signed n (value x)
      → IsBounded value signed n taps (x ∷ take k past) weight next
  bounded_next past x k weight peak next b up here range = record {
    total = b.total;
    most =
        let before = All-weaker (λ y. unsigned_abs (value y) ≤ peak) (λ y. unsigned_abs (value y) ≤ next) (λ y h. omega arith) past b.most in
        All-cons (λ y. unsigned_abs (value y) ≤ next) x (take k past) here (All-take (λ y. unsigned_abs (value y) ≤ next) k past before);
    taps_in_range = b.taps_in_range;
    past_in_range = All-cons (λ y. InRange signed n (value y)) x (take k past) range (All-take (λ y. InRange signed n (value y)) k past b.past_in_range);
  }

  -- the reply where there is room
  pub bounded_reply : (past : List T) (weight peak d : ℕ) (s : ℤ) → IsWidth n → length taps ≡ length past → IsBounded value signed n taps past weight peak → HasRoom signed n s weight peak (length taps) d
      → filter_reply signed n s (pairs value value taps past) ≡ Value (wrap signed n (accumulator (pos d) (pairs value value taps past) (length taps)))
  bounded_reply past weight peak d s width same b r =
      let total = b.total in
      let room = r.room in
      ap (λ (p : ℤ). filter_reply signed n p (pairs value value taps past)) r.places
      ∙ reply_where_room value value signed n d peak taps past width b.most same b.taps_in_range b.past_in_range (rw total at room)
