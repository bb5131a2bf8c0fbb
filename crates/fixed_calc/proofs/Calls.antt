-- How many calls a run makes of a source and a sink in memory.
use Rattle.std.proofs.Common.{◌≡◌, ◌≤◌, ◌<◌, ◌+◌, ◌-◌, ◌*◌, ◌⊎◌, ◌∙◌, ℕ, zero, suc, List, length, min, Ok, inl, inr, ap, arith, length-drop}
use Rattle.fixed_calc.specs.Calls.{GaveBytes, ReadsUntil, TookBytes, buffer_size}
use Rattle.fixed_stream.specs.Memory.{IsCallsFor, MemoryInput, MemoryOutput, MemoryReadGives, MemoryWriteGives}
use Rattle.fixed_stream.specs.Outside.{last_count}

-- so far each call moved `most`, or none is left
abbrev pub MovedSoFar : ℕ → ℕ → ℕ → ℕ → Type 0
MovedSoFar most total calls left = (total ≡ most * calls) ⊎ ((left ≡ 0) × IsCallsFor most total calls)

one_more : (most total calls left count total' left' : ℕ) → 0 < count → count ≡ min most left
    → total' ≡ total + count → left' ≡ left - count → MovedSoFar most total calls left → MovedSoFar most total' (suc calls) left'
one_more most total calls left count total' left' some moved t l (inl full) = grind arith
one_more most total calls left count total' left' some moved t l (inr done) = absurd (omega (arith, done.0))

all_moved : (most total calls left : ℕ) → 1 ≤ most → left ≡ 0 → MovedSoFar most total calls left → IsCallsFor most total calls
all_moved most total calls left some none_left (inl full) = (omega arith, omega arith)
all_moved most total calls left some none_left (inr done) = done.1

-- what reads in a row leave
pub record ReadSoFar (calls total : ℕ) (s u : MemoryInput) : Type 0 where
  pub most : u.most ≡ s.most
  pub left : length u.left + total ≡ length s.left
  pub counted : s.calls + calls ≤ last_count → u.calls ≡ s.calls + calls
  pub moved : MovedSoFar (min s.most buffer_size) total calls (length u.left)

read_so_far : (calls total : ℕ) (s u : MemoryInput) → GaveBytes MemoryReadGives calls total s u → ReadSoFar calls total s u
read_so_far zero total s u h = record {
  most = ap (λ m. m.most) h.1;
  left = omega (arith, ap (λ m. length m.left) h.1, h.0);
  counted = λ _. omega (arith, ap (λ m. m.calls) h.1);
  moved = inl (omega (arith, h.0));
}
read_so_far (suc calls) total s u h =
    let t = h.2 in
    let earlier = read_so_far calls h.0 s t h.3 in
    let gives = h.6 in
    let rest : length u.left ≡ length t.left - h.1 = ap length gives.2.1 ∙ length-drop h.1 t.left in
    record {
      most = gives.3 ∙ earlier.most;
      left = omega (arith, rest, gives.2.0, earlier.left, h.5);
      counted = λ bound. omega (arith, gives.0, earlier.counted (omega arith));
      moved = one_more _ h.0 calls (length t.left) h.1 _ _ h.4 (omega (arith, gives.2.0, earlier.most)) h.5 rest earlier.moved;
    }

pub reads_law : (calls total : ℕ) (s s' : MemoryInput) → 1 ≤ s.most → ReadsUntil MemoryReadGives calls total (Ok 0) s s'
    → (total ≡ length s.left) × IsCallsFor (min s.most buffer_size) total calls × (s.calls + calls < last_count → s'.calls ≡ s.calls + calls + 1)
reads_law calls total s s' some h =
    let so_far = read_so_far calls total s h.0 h.1 in
    let gives = h.3 in
    let ended : length h.0.left ≡ 0 = omega (arith, gives.2.0, so_far.most) in (
      omega (arith, so_far.left, ended),
      all_moved _ total calls _ (omega arith) ended so_far.moved,
      λ bound. omega (arith, gives.0, so_far.counted (omega arith)),
    )

-- what writes in a row leave
pub record TookSoFar (bytes : List ℕ) (calls total : ℕ) (s u : MemoryOutput) : Type 0 where
  pub most : u.most ≡ s.most
  pub within : total ≤ length bytes
  pub counted : s.calls + calls ≤ last_count → u.calls ≡ s.calls + calls
  pub moved : MovedSoFar s.most total calls (length bytes - total)

took_so_far : (bytes : List ℕ) (calls total : ℕ) (s u : MemoryOutput) → 1 ≤ s.most → TookBytes MemoryWriteGives bytes calls total s u
    → TookSoFar bytes calls total s u
took_so_far bytes zero total s u some h = record {
  most = ap (λ m. m.most) h.1;
  within = omega (arith, h.0);
  counted = λ _. omega (arith, ap (λ m. m.calls) h.1);
  moved = inl (omega (arith, h.0));
}
took_so_far bytes (suc calls) total s u some h =
    let t = h.2 in
    let earlier = took_so_far bytes calls h.0 s t some h.3 in
    let gives = h.6 in
    let rest = length-drop h.0 bytes in
    record {
      most = gives.3 ∙ earlier.most;
      within = omega (arith, rest, gives.2.0, h.5, h.4);
      counted = λ bound. omega (arith, gives.0, earlier.counted (omega arith));
      moved = one_more _ h.0 calls (length bytes - h.0) h.1 _ _ (omega (arith, rest, gives.2.0, earlier.most, h.4)) (omega (arith, rest, gives.2.0, earlier.most)) h.5 (omega (arith, h.5)) earlier.moved;
    }

pub writes_law : (bytes : List ℕ) (calls : ℕ) (s s' : MemoryOutput) → 1 ≤ s.most → TookBytes MemoryWriteGives bytes calls (length bytes) s s'
    → IsCallsFor s.most (length bytes) calls × (s.calls + calls ≤ last_count → s'.calls ≡ s.calls + calls)
writes_law bytes calls s s' some h =
    let so_far = took_so_far bytes calls (length bytes) s s' some h in
    (all_moved _ _ calls _ some (omega arith) so_far.moved, so_far.counted)
