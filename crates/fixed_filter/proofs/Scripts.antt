-- What a script of channels and samples prints.
use Rattle.std.proofs.Common.{◌≡◌, ◌+◌, ◌&&◌, ℕ, suc, ℤ, Bool, true, false, eqb, cond, if◌then◌else◌, List, [], ◌∷◌, ◌++◌, length, map, drop, Option, Some, None, Result, refl, sym, ap, ◌∙◌, append_assoc}
use Rattle.std.specs.Prelude.{nat_lt, slice_index_or}
use Rattle.std.specs.Option.{option_map_or}
use Rattle.std.specs.List.{list_all}
use Rattle.std.specs.Cmp.Derive.{both_true}
use Rattle.std.proofs.lemmas.List.{append-nil, map-append}
use Rattle.fixed_word.specs.Decimal.{whole_text}
use Rattle.fixed_word.specs.Format.{fits}
use Rattle.fixed_word.specs.Pieces.{pieces, body}
use Rattle.fixed_text.specs.Runs.{run_then, lines_from, Meaning, meaning_of, Output, Fault}
use Rattle.fixed_text.specs.Readings.{Reading, Malformed, Read, in_range, read_map, fitting_number, fitting_numbers, PieceCause, at_piece, first_at, piece_by, line_by}
use Rattle.fixed_text.proofs.Ended.{pieces_ended, body_ended, word_lacks}
use Rattle.fixed_text.proofs.Turns.{line_moves}
use Rattle.fixed_text.specs.Words.{is_signed, width}
use Rattle.fixed_digits.proofs.Decimals.{both}
use Rattle.fixed_digits.proofs.Lacking.{lacks, natural_lacks, whole_lacks, joined_lack}
use Rattle.fixed_filter.specs.declared.reply.Reply.{Reply}
use Rattle.fixed_filter.specs.declared.shape.Shape.{Shape}
use Rattle.fixed_filter.specs.Banks.{places_of}
use Rattle.fixed_filter.specs.Outputs.{own, reply_after, replies, taps_at}
use Rattle.fixed_filter.specs.Scripts.{ended_texts, script_text, channels_and_samples, taps_of_channels, all_fit, are_samples, reply_texts}
use Rattle.fixed_filter.specs.Runs.{FilterState, with_taps, with_own, has_begun, shape_fits, shape_of, start, header_read, reply_text, answer_text, line_read, filter_first, filter_line, filter_output}
use Rattle.fixed_filter.specs.Text.{FilterHeader, FilterLine, Taps, Sample, header_text, header_tokens, line_text, line_tokens}
use Rattle.fixed_filter.proofs.Readers.{header_reader, line_reader}
use Rattle.fixed_filter.proofs.Simulated.{own_here}

-- ---- texts and their newlines
abbrev ended : List ℕ → List ℕ
ended t = t ++ (10 ∷ [])

pieces_of_texts : (ts : List (List ℕ)) → list_all (lacks 10) ts ≡ true → pieces (ended_texts ts) ≡ map ended ts
pieces_of_texts [] h = refl
pieces_of_texts (t ∷ ts) h =
    let parts = both (lacks 10 t) (list_all (lacks 10) ts) h in
    pieces_ended t (ended_texts ts) parts.0 ∙ ap (λ ps. ended t ∷ ps) (pieces_of_texts ts parts.1)

-- ---- no header and no line has a newline
header_lacks : (h : FilterHeader) → lacks 10 (header_text h) ≡ true
header_lacks h =
    joined_lack (header_tokens h)
    (both_true refl (both_true (word_lacks h.word) (both_true (natural_lacks 10 h.out refl) (both_true (natural_lacks 10 h.coef refl) (both_true (natural_lacks 10 h.sample refl) refl)))))

wholes_lack : (xs : List ℤ) → list_all (lacks 10) (map whole_text xs) ≡ true
wholes_lack [] = refl
wholes_lack (x ∷ xs) = both_true (whole_lacks 10 x refl refl) (wholes_lack xs)

line_lacks : (l : FilterLine) → lacks 10 (line_text l) ≡ true
line_lacks (Taps c cs) = joined_lack (line_tokens (Taps c cs)) (both_true refl (wholes_lack (c ∷ cs)))
line_lacks (Sample j x) = joined_lack (line_tokens (Sample j x)) (both_true (natural_lacks 10 j refl) (both_true (whole_lacks 10 x refl refl) refl))

lines_lack : (ls : List FilterLine) → list_all (lacks 10) (map line_text ls) ≡ true
lines_lack [] = refl
lines_lack (l ∷ ls) = both_true (line_lacks l) (lines_lack ls)

-- ---- one line
abbrev step : FilterState → ℕ → List ℕ → Result (FilterState × List ℕ) PieceCause
step = line_by filter_line

abbrev printed : FilterState → ℕ → List (List ℕ) → Meaning PieceCause
printed s k ps = meaning_of (lines_from step s k ps)

-- the same after other bytes
abbrev in_front : List ℕ → Meaning PieceCause → Meaning PieceCause
in_front bytes (Output more) = Output (bytes ++ more)
in_front bytes (Fault c) = Fault c

meaning_after : (bytes output : List ℕ) (cause : Option PieceCause) → option_map_or Fault cause (Output (bytes ++ output)) ≡ in_front bytes (option_map_or Fault cause (Output output))
meaning_after bytes output None = refl
meaning_after bytes output (Some c) = refl

line_first : (s : FilterState) (k : ℕ) (t : List ℕ) (ps : List (List ℕ)) (moved : FilterState × List ℕ) → filter_line s t ≡ Read moved → printed s k (ended t ∷ ps) ≡ in_front moved.1 (printed moved.0 (k + 1) ps)
line_first s k t ps moved e =
    let reads = ap (λ (o : Option (List ℕ)). at_piece k (piece_by (filter_line s) o)) (body_ended t) ∙ ap (at_piece k) e in
    let later = lines_from step moved.0 (k + 1) ps in
    ap meaning_of (line_moves step s moved.0 k (ended t) moved.1 ps reads) ∙ meaning_after moved.1 later.output later.cause

taps_line : (s : FilterState) (c : ℤ) (cs : List ℤ) → has_begun s.before ≡ false → list_all (fits s.signed s.bits) (c ∷ cs) ≡ true → filter_line s (line_text (Taps c cs)) ≡ Read (with_taps (c ∷ cs) s, [])
taps_line s c cs begun fit =
    ap (line_read s) (line_reader.again (Taps c cs))
    ∙ ap (λ (b : Bool). if b then Malformed else read_map (λ taps. (with_taps taps s, [])) (fitting_numbers s.signed s.bits (Some (c ∷ cs)))) begun
    ∙ ap (λ (b : Bool). read_map (λ taps. (with_taps taps s, [])) (in_range b (Read (c ∷ cs)))) fit

sample_line : (s : FilterState) (j : ℕ) (x : ℤ) → nat_lt j (length s.bank) ≡ true → fits s.signed s.bits x ≡ true → filter_line s (line_text (Sample j x)) ≡ Read (with_own j x s, answer_text s j x)
sample_line s j x there fit =
    ap (line_read s) (line_reader.again (Sample j x))
    ∙ ap (λ (b : Bool). in_range b (read_map (λ x. (with_own j x s, answer_text s j x)) (fitting_number s.signed s.bits (Some x)))) there
    ∙ ap (λ (b : Bool). read_map (λ x. (with_own j x s, answer_text s j x)) (in_range b (Read x))) fit

module _ (signed : Bool) (n : ℕ) (shape : Shape) where
  state_of : List (List ℤ) → List (ℕ × ℤ) → FilterState
  state_of bank before = record { signed = signed; bits = n; shape = shape; bank = bank; before = before }

  abbrev pieces_for : List FilterLine → List (List ℕ)
  pieces_for lines = map ended (map line_text lines)

  -- ---- samples: of each channel as many replies as samples stand before
  abbrev AsMany : List (ℕ × Reply ℤ) → List (ℕ × ℤ) → Type 0
  AsMany told before = (c : ℕ) → length (own c told) ≡ length (own c before)

  as_many-more : (j : ℕ) (r : Reply ℤ) (x : ℤ) (told : List (ℕ × Reply ℤ)) (before : List (ℕ × ℤ)) → AsMany told before → AsMany ((j, r) ∷ told) ((j, x) ∷ before)
  as_many-more j r x told before h c = by_test (eqb j c) (h c)
    where
      by_test : (b : Bool) → length (own c told) ≡ length (own c before) → length (cond b (r ∷ own c told) (own c told)) ≡ length (cond b (x ∷ own c before) (own c before))
      by_test true e = ap suc e
      by_test false e = e

  module _ (bank : List (List ℤ)) where
    samples_printed : (before samples : List (ℕ × ℤ)) (told : List (ℕ × Reply ℤ)) (k : ℕ) → AsMany told before → are_samples signed n (length bank) samples ≡ true
        → printed (state_of bank before) k (pieces_for (map (λ e. Sample e.0 e.1) samples)) ≡ Output (reply_texts told (replies signed n (places_of shape) bank before samples))
    unfolding lines_from state_of
    samples_printed before [] told k many fit = refl
    samples_printed before (e ∷ es) told k many fit =
        let parts = both (nat_lt e.0 (length bank) && fits signed n e.1) (are_samples signed n (length bank) es) fit in
        let one = both (nat_lt e.0 (length bank)) (fits signed n e.1) parts.0 in
        let s = state_of bank before in
        let reply = reply_after signed n (places_of shape) (taps_at bank e.0) (own e.0 (e ∷ before)) in
        let here = own_here e.0 e.0 e.1 before refl in
        let later = reply_texts ((e.0, reply) ∷ told) (replies signed n (places_of shape) bank (e ∷ before) es) in
        line_first s k (line_text (Sample e.0 e.1)) (pieces_for (map (λ e. Sample e.0 e.1) es)) (with_own e.0 e.1 s, answer_text s e.0 e.1) (sample_line s e.0 e.1 one.0 one.1)
        ∙ ap (in_front (answer_text s e.0 e.1)) (samples_printed (e ∷ before) es ((e.0, reply) ∷ told) (k + 1) (as_many-more e.0 reply e.1 told before many) parts.1)
        ∙ ap (λ (m : ℕ). Output (reply_text e.0 m (reply_after signed n (places_of shape) (taps_at bank e.0) (e.1 ∷ own e.0 before)) ++ later)) (sym (many e.0))
        ∙ ap (λ (xs : List ℤ). Output (reply_text e.0 (length (own e.0 told)) (reply_after signed n (places_of shape) (taps_at bank e.0) xs) ++ later)) (sym here)

  -- ---- channels
  taps_printed : (bank : List (List ℤ)) (cs : List (ℤ × List ℤ)) (k : ℕ) (qs : List (List ℕ)) (out : List ℕ) → all_fit signed n (taps_of_channels cs) ≡ true
      → ((k : ℕ) (b : List (List ℤ)) → b ≡ bank ++ taps_of_channels cs → printed (state_of b []) k qs ≡ Output out)
      → printed (state_of bank []) k (pieces_for (map (λ t. Taps t.0 t.1) cs) ++ qs) ≡ Output out
  unfolding state_of
  taps_printed bank [] k qs out fit goes_on = goes_on k bank (sym (append-nil bank))
  taps_printed bank (t ∷ ts) k qs out fit goes_on =
      let parts = both (list_all (fits signed n) (t.0 ∷ t.1)) (all_fit signed n (taps_of_channels ts)) fit in
      line_first (state_of bank []) k (line_text (Taps t.0 t.1)) (pieces_for (map (λ t. Taps t.0 t.1) ts) ++ qs) (state_of (bank ++ (t.0 ∷ t.1) ∷ []) [], []) (taps_line (state_of bank []) t.0 t.1 refl parts.0)
      ∙ ap (in_front []) (taps_printed (bank ++ (t.0 ∷ t.1) ∷ []) ts (k + 1) qs out parts.1 (λ k b e. goes_on k b (e ∙ append_assoc bank ((t.0 ∷ t.1) ∷ []) (taps_of_channels ts))))

  lines_printed : (cs : List (ℤ × List ℤ)) (samples : List (ℕ × ℤ)) → all_fit signed n (taps_of_channels cs) ≡ true → are_samples signed n (length (taps_of_channels cs)) samples ≡ true
      → printed (start signed n shape) 2 (pieces_for (channels_and_samples cs samples)) ≡ Output (reply_texts [] (replies signed n (places_of shape) (taps_of_channels cs) [] samples))
  unfolding state_of
  lines_printed cs samples fit sampled =
      let taps_lines = map (λ (t : ℤ × List ℤ). Taps t.0 t.1) cs in
      let sample_lines = map (λ (e : ℕ × ℤ). Sample e.0 e.1) samples in
      let out = reply_texts [] (replies signed n (places_of shape) (taps_of_channels cs) [] samples) in
      let apart = ap (map ended) (map-append line_text taps_lines sample_lines) ∙ map-append ended (map line_text taps_lines) (map line_text sample_lines) in
      ap (printed (start signed n shape) 2) apart
      ∙ taps_printed [] cs 2 (pieces_for sample_lines) out fit
      (λ k b e. ap (λ (b : List (List ℤ)). printed (state_of b []) k (pieces_for sample_lines)) e ∙ samples_printed (taps_of_channels cs) [] samples [] k (λ c. refl) sampled)

-- ---- the script
abbrev opened : Reading FilterState → List (List ℕ) → Meaning PieceCause
opened reading ps = meaning_of (run_then None (first_at reading) (λ s. lines_from step s 2 ps))

pub script_printed : (h : FilterHeader) (cs : List (ℤ × List ℤ)) (samples : List (ℕ × ℤ)) → shape_fits (width h.word) (shape_of h) ≡ true → all_fit (is_signed h.word) (width h.word) (taps_of_channels cs) ≡ true
    → are_samples (is_signed h.word) (width h.word) (length (taps_of_channels cs)) samples ≡ true
    → filter_output (script_text h (channels_and_samples cs samples)) ≡ Output (reply_texts [] (replies (is_signed h.word) (width h.word) (places_of (shape_of h)) (taps_of_channels cs) [] samples))
script_printed h cs samples shape_fit fit sampled =
    let lines = channels_and_samples cs samples in
    let ps = map ended (map line_text lines) in
    let first = start (is_signed h.word) (width h.word) (shape_of h) in
    ap (λ (ps : List (List ℕ)). opened (piece_by filter_first (body (slice_index_or ps 0 []))) (drop 1 ps)) (pieces_of_texts (header_text h ∷ map line_text lines) (both_true (header_lacks h) (lines_lack lines)))
    ∙ ap (λ (o : Option (List ℕ)). opened (piece_by filter_first o) ps) (body_ended (header_text h))
    ∙ ap (λ (o : Option FilterHeader). opened (header_read o) ps) (header_reader.again h)
    ∙ ap (λ (b : Bool). opened (in_range b (Read first)) ps) shape_fit
    ∙ lines_printed (is_signed h.word) (width h.word) (shape_of h) cs samples fit sampled
