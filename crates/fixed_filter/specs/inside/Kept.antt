-- A run of filters, as it is kept: each channel with the samples that its taps reach, and their count, in 64
-- bits. `proofs/Simulated` shows that such a run prints what specs/Runs says of every script.
use Rattle.std.specs.Prelude.{◌+◌, ◌%◌, ◌^◌, ℕ, ℤ, pos, Bool, true, List, [], ◌∷◌, ◌++◌, length, map, slice_index_or, Option, Some, None, nat_lt, if◌then◌else◌}
use Rattle.std.specs.List.{zip}
use Rattle.fixed_text.specs.Readings.{Reading, Malformed, in_range, read_map, fitting_number, fitting_numbers}
use Rattle.fixed_filter.specs.declared.reply.Reply.{Reply}
use Rattle.fixed_filter.specs.declared.shape.Shape.{Shape}
use Rattle.fixed_filter.specs.Banks.{Filter, change_at, fresh, places_of, with_sample}
use Rattle.fixed_filter.specs.Replies.{filter_reply}
use Rattle.fixed_filter.specs.Runs.{reply_text}
use Rattle.fixed_filter.specs.Text.{FilterLine, Taps, Sample}
use Rattle.fixed_filter.specs.Lines.{line_of}

pub record KeptState : Type 0 where
  pub signed : Bool
  pub bits : ℕ
  pub shape : Shape
  pub channels : List (Filter ℤ)
  pub counts : List ℕ
  pub begun : Bool

-- a filter, by the numbers of its words
abbrev pub filter_map : {T : Type 0} → (T → ℤ) → Filter T → Filter ℤ
filter_map value filter = record { taps = map value filter.taps; past = map value filter.past }

abbrev pub lane_at : List (Filter ℤ) → ℕ → Filter ℤ
lane_at channels i = slice_index_or channels i (record { taps = []; past = [] })

abbrev pub kept_taps : List ℤ → KeptState → KeptState
kept_taps taps state =
    record { signed = state.signed; bits = state.bits; shape = state.shape; channels = state.channels ++ fresh (pos 0) taps ∷ []; counts = state.counts ++ 0 ∷ []; begun = state.begun }

abbrev pub kept_sample : ℕ → ℤ → KeptState → KeptState
kept_sample channel x state =
    record {
      signed = state.signed;
      bits = state.bits;
      shape = state.shape;
      channels = change_at channel (with_sample x) state.channels;
      counts = change_at channel (λ n. (n + 1) % 2 ^ 64) state.counts;
      begun = true;
    }

abbrev pub kept_reply : KeptState → Filter ℤ → Reply ℤ
kept_reply state lane = filter_reply state.signed state.bits (places_of state.shape) (zip lane.taps lane.past)

abbrev pub kept_text : KeptState → ℕ → ℤ → List ℕ
kept_text state channel x =
    reply_text channel (slice_index_or state.counts channel 0) (kept_reply state (lane_at (change_at channel (with_sample x) state.channels) channel))

-- what a line is read as: taps, and a sample
abbrev pub kept_taps_read : KeptState → Option (List ℤ) → Reading (KeptState × List ℕ)
kept_taps_read state numbers =
    if state.begun then Malformed else read_map (λ taps. (kept_taps taps state, [])) (fitting_numbers state.signed state.bits numbers)

abbrev pub kept_sample_read : KeptState → ℕ → Option ℤ → Reading (KeptState × List ℕ)
kept_sample_read state channel number =
    in_range (nat_lt channel (length state.channels)) (read_map (λ x. (kept_sample channel x state, kept_text state channel x)) (fitting_number state.signed state.bits number))

abbrev pub kept_read : KeptState → Option FilterLine → Reading (KeptState × List ℕ)
kept_read state None = Malformed
kept_read state (Some (Taps c cs)) = kept_taps_read state (Some (c ∷ cs))
kept_read state (Some (Sample channel x)) = kept_sample_read state channel (Some x)

abbrev pub kept_line : KeptState → List ℕ → Reading (KeptState × List ℕ)
kept_line state piece = kept_read state (line_of piece)
