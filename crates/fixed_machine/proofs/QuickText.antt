-- The text of a line that is read quickly, part by part.
use Rattle.std.proofs.Common.{◌≡◌, ◌+◌, ◌-◌, ◌*◌, ◌/◌, ◌%◌, ◌^◌, ◌<◌, ◌≤◌, ℕ, min, zero, suc, true, false, List, [], ◌∷◌, ◌++◌, length, take, drop, get_or, length-append, append_assoc, Option, Some, None, refl, sym, ap, subst, ◌∙◌, arith, codes}
use Rattle.std.specs.Char.{is_ascii_digit}
use Rattle.std.specs.List.{list_all, join_with_byte}
use Rattle.std.specs.Int.{Width, from_le_bytes, to_le_bytes}
use Rattle.std.specs.Str.Parse.{digits_value, AllDigits}
use Rattle.std.proofs.Math.Nat.{pow-le-pow_right}
use Rattle.std.proofs.Math.Seq.{take-add}
use Rattle.std.proofs.lemmas.Int.Digits.{digits_value-lt}
use Rattle.std.proofs.lemmas.List.{drop_more, drop-drop, take-append-drop, take-take, take_all, take_at, length-take-le, length-take, get_or-take, get_or-drop, length-drop}
use Rattle.fixed_word.specs.Decimal.{natural_text, whole_text}
use Rattle.fixed_word.specs.Format.{with_sign}
use Rattle.fixed_word.specs.Pieces.{pieces}
use Rattle.fixed_digits.proofs.Capping.{digit_value_is}
use Rattle.fixed_digits.proofs.Decimals.{both, natural_takes, natural_text_step, natural_text_digit}
use Rattle.fixed_digits.proofs.Fronts.{natural_is, digits_more, value_grows}
use Rattle.fixed_digits.proofs.Shown.{one_digit}
use Rattle.fixed_script.specs.declared.line.Arity.{Arity}
use Rattle.fixed_script.specs.declared.line.Arity.TheVariants.{Unary, Binary, ByInteger, Ternary}
use Rattle.fixed_script.specs.Names.{policy_name, op_name, arity}
use Rattle.fixed_script.specs.Lines.{line_of_piece}
use Rattle.fixed_script.specs.Text.{IsLine, line_text, register_text, operand_tokens, arity_of}
use Rattle.fixed_machine.specs.Answers.{ended}
use Rattle.fixed_machine.specs.declared.quick.Applied.{Applied}
use Rattle.fixed_machine.specs.declared.quick.QuickLine.{QuickLine}
use Rattle.fixed_machine.specs.inside.Quick.{Stands, HasOperands, IsQuickLine, applied_or_set, quick_operands, quick_number}
use Rattle.fixed_text.proofs.Ended.{pieces_ended}
use Rattle.fixed_machine.proofs.Ended.{line_read}
use Rattle.fixed_machine.proofs.Lacks.{line_lacks}

-- ---- names
-- the first bytes of a list of bytes
front_bytes : (k : ℕ) (xs : List ℕ) → ((i : ℕ) → get_or xs i 0 < 256) → (i : ℕ) → get_or (take k xs) i 0 < 256
front_bytes zero xs bytes i = omega arith
front_bytes (suc k) [] bytes i = bytes i
front_bytes (suc k) (x ∷ xs) bytes zero = bytes zero
front_bytes (suc k) (x ∷ xs) bytes (suc i) = front_bytes k xs (λ j. bytes (suc j)) i

-- a copy of n of them, from a place on
copy_bytes : (xs copy : List ℕ) (from n : ℕ) → ((i : ℕ) → get_or xs i 0 < 256) → copy ≡ take (from + n - from) (drop from xs) → (i : ℕ) → get_or copy i 0 < 256
copy_bytes xs copy from n bytes is i =
    let all : (j : ℕ) → get_or (drop from xs) j 0 < 256 = λ j. omega (arith, bytes (from + j), get_or-drop from xs j 0) in
    omega (arith, front_bytes (from + n - from) (drop from xs) all i, ap (λ (ys : List ℕ). get_or ys i 0) is)

-- bytes can be read back from their number
abbrev pub ReadsBack : Width → ℕ → Type 0
ReadsBack w n = (bs : List ℕ) (x : ℕ) → length bs ≡ n → ((i : ℕ) → get_or bs i 0 < 256) → x ≡ from_le_bytes w bs → to_le_bytes w x ≡ bs

-- n bytes of two texts are copied, and their numbers are equal
pub copied_is : (w : Width) (n : ℕ) → ReadsBack w n → (bytes text found wanted : List ℕ) (at from x y : ℕ) → ((i : ℕ) → get_or bytes i 0 < 256) → ((i : ℕ) → get_or text i 0 < 256)
    → length found ≡ n → found ≡ take (at + from + n - (at + from)) (drop (at + from) bytes) → length wanted ≡ n → wanted ≡ take (from + n - from) (drop from text)
    → x ≡ from_le_bytes w found → y ≡ from_le_bytes w wanted → x ≡ y → take n (drop from (drop at bytes)) ≡ take n (drop from text)
copied_is w n back bytes text found wanted at from x y bytes_fit text_fits found_long found_is wanted_long wanted_is x_is y_is same =
    let is : found ≡ wanted =
    sym (back found x found_long (copy_bytes bytes found (at + from) n bytes_fit found_is) x_is) ∙ ap (to_le_bytes w) same ∙ back wanted y wanted_long (copy_bytes text wanted from n text_fits wanted_is) y_is in
    let few : at + from + n - (at + from) ≡ n = omega arith in
    let fewer : from + n - from ≡ n = omega arith in
    ap (take n) (drop-drop from at bytes)
    ∙ ap (λ k. take k (drop (at + from) bytes)) (sym few)
    ∙ sym found_is
    ∙ is
    ∙ wanted_is
    ∙ ap (λ k. take k (drop from text)) fewer

-- two parts that meet or overlap
pub joined : (xs ys : List ℕ) (k from n : ℕ) → from ≤ k → take k xs ≡ take k ys → take n (drop from xs) ≡ take n (drop from ys) → take (from + n) xs ≡ take (from + n) ys
joined xs ys k from n within first second =
    let front : take from xs ≡ take from ys = sym (take-take from k xs within) ∙ ap (take from) first ∙ take-take from k ys within in
    take-add from n xs ∙ ap (λ (t : List ℕ). t ++ take n (drop from xs)) front ∙ ap (λ (t : List ℕ). take from ys ++ t) second ∙ sym (take-add from n ys)

-- a text whose first k bytes stand at a place, and whose last n, which begin among them or right behind them
pub text_stands : (bytes text : List ℕ) (at long k from n : ℕ) → length text ≡ long → long ≡ from + n → from ≤ k → take k (drop at bytes) ≡ take k text
    → take n (drop from (drop at bytes)) ≡ take n (drop from text) → drop at bytes ≡ text ++ drop (at + long) bytes
text_stands bytes text at long k from n is parts within first last =
    let all : take (from + n) text ≡ text = take_all (from + n) text (omega (arith, is, parts)) in
    let front : take long (drop at bytes) ≡ text = ap (λ m. take m (drop at bytes)) parts ∙ joined (drop at bytes) text k from n within first last ∙ all in
    sym (take-append-drop long (drop at bytes)) ∙ ap (λ (t : List ℕ). t ++ drop long (drop at bytes)) front ∙ ap (λ (t : List ℕ). text ++ t) (drop-drop long at bytes)

-- ---- registers
-- the byte at a place, and what comes after it
next_is : (bytes : List ℕ) (i j b : ℕ) → i < length bytes → j ≡ i + 1 → get_or bytes i 0 ≡ b → drop i bytes ≡ b ∷ drop j bytes
next_is bytes i j b lt next is = drop_more bytes i 0 lt ∙ ap (λ n. get_or bytes i 0 ∷ drop n bytes) (sym next) ∙ ap (λ c. c ∷ drop j bytes) is

-- a byte of a copy of four, from a place on
pub copied_byte : (bytes copy : List ℕ) (at i : ℕ) → copy ≡ take (at + 4 - at) (drop at bytes) → i < 4 → get_or copy i 0 ≡ get_or bytes (at + i) 0
copied_byte bytes copy at i is small =
    let four : at + 4 - at ≡ 4 = omega arith in
    ap (λ (ys : List ℕ). get_or ys i 0) (is ∙ ap (λ k. take k (drop at bytes)) four) ∙ get_or-take 4 (drop at bytes) i 0 small ∙ get_or-drop at bytes i 0

-- four bytes as a number, less `r0` and a separator as one: where three bytes of it are a digit and no more, they are a register
pub record Shows (b c d s n count : ℕ) : Type 0 where
  pub letter : b ≡ 114
  pub digit : c ≡ 48 + n
  pub separator : d ≡ s
  pub small : n < 10
  pub few : n < count

pub register_shown : (b c d e s v least above most count : ℕ) → b < 256 → c < 256 → d < 256 → e < 256 → s < 256 → v ≡ b + (c + (d + e * 256) * 256) * 256 → least ≡ 114 + (48 + s * 256) * 256
    → above ≡ (v + (4294967296 - least)) % 4294967296 % 16777216 → above % 256 ≡ 0 → above / 256 < most → most ≡ min count 10 → Shows b c d s (above / 256) count
register_shown b c d e s v least above most count first second third fourth byte v_is least_is above_is whole few most_is =
    record {
      letter = omega arith;
      digit = omega arith;
      separator = omega arith;
      small = omega arith;
      few = omega arith;
    }

pub register_one : (bytes : List ℕ) (at n s : ℕ) → at + 4 ≤ length bytes → get_or bytes at 0 ≡ 114 → get_or bytes (at + 1) 0 ≡ 48 + n → n < 10 → get_or bytes (at + 2) 0 ≡ s → Stands bytes at (register_text n) s 4 (at + 3)
register_one bytes at n s room letter shown small separator =
    record {
      reads =
          next_is bytes at (at + 1) 114 (omega arith) refl letter
          ∙ ap (λ (t : List ℕ). 114 ∷ t) (next_is bytes (at + 1) (at + 2) (48 + n) (omega arith) (omega arith) shown)
          ∙ ap (λ (t : List ℕ). 114 ∷ (48 + n) ∷ t) (next_is bytes (at + 2) (at + 3) s (omega arith) (omega arith) separator)
          ∙ ap (λ (t : List ℕ). 114 ∷ (t ++ (s ∷ drop (at + 3) bytes))) (sym (one_digit n small));
      within = omega arith;
    }

pub register_two : (bytes : List ℕ) (at n s : ℕ) → at + 4 ≤ length bytes → get_or bytes at 0 ≡ 114 → is_ascii_digit (get_or bytes (at + 1) 0) ≡ true → (get_or bytes (at + 1) 0 ≡ 48 → ⊥) → is_ascii_digit (get_or bytes (at + 2) 0) ≡ true
    → n ≡ (get_or bytes (at + 1) 0 - 48) * 10 + (get_or bytes (at + 2) 0 - 48) → get_or bytes (at + 3) 0 ≡ s → Stands bytes at (register_text n) s 4 (at + 4)
register_two bytes at n s room letter tens above ones is separator =
    let t = get_or bytes (at + 1) 0 - 48 in
    let o = get_or bytes (at + 2) 0 - 48 in
    let d = digit_value_is (get_or bytes (at + 1) 0) tens in
    let e = digit_value_is (get_or bytes (at + 2) 0) ones in
    let tens_shown : get_or bytes (at + 1) 0 ≡ 48 + t = omega (arith, d.1) in
    let ones_shown : get_or bytes (at + 2) 0 ≡ 48 + o = omega (arith, e.1) in
    let some : 0 < t = above_zero (get_or bytes (at + 1) 0) d.1 above in
    let text : natural_text n ≡ (48 + t) ∷ (48 + o) ∷ [] =
    ap natural_text is ∙ natural_text_step t o some (omega (arith, e.2)) ∙ ap (λ (u : List ℕ). u ++ ((48 + o) ∷ [])) (natural_text_digit t some (omega (arith, d.2))) in
    record {
      reads =
          next_is bytes at (at + 1) 114 (omega arith) refl letter
          ∙ ap (λ (u : List ℕ). 114 ∷ u) (next_is bytes (at + 1) (at + 2) (48 + t) (omega arith) (omega arith) tens_shown)
          ∙ ap (λ (u : List ℕ). 114 ∷ (48 + t) ∷ u) (next_is bytes (at + 2) (at + 3) (48 + o) (omega arith) (omega arith) ones_shown)
          ∙ ap (λ (u : List ℕ). 114 ∷ (48 + t) ∷ (48 + o) ∷ u) (next_is bytes (at + 3) (at + 4) s (omega arith) (omega arith) separator)
          ∙ ap (λ (u : List ℕ). 114 ∷ (u ++ (s ∷ drop (at + 4) bytes))) (sym text);
      within = omega arith;
    }
  where
    above_zero : (c : ℕ) → 48 ≤ c → (c ≡ 48 → ⊥) → 0 < c - 48
    above_zero c le not = grind (arith, le, not)

-- ---- numbers
-- one more digit
all_below : (ds : List ℕ) → list_all is_ascii_digit ds ≡ true → AllDigits 10 ds
all_below [] digits = tt
all_below (c ∷ cs) digits =
    let parts = both (is_ascii_digit c) (list_all is_ascii_digit cs) digits in
    let d = digit_value_is c parts.0 in
    (omega (arith, d.0, d.1, d.2), all_below cs parts.1)

pub value_small : (bytes : List ℕ) (at count v : ℕ) → count < 19 → list_all is_ascii_digit (take count (drop at bytes)) ≡ true → v ≡ digits_value 10 (take count (drop at bytes)) → v < 1000000000000000000
value_small bytes at count v few digits is =
    let ds = take count (drop at bytes) in
    let below = digits_value-lt 10 ds (all_below ds digits) in
    let short : length ds ≤ 18 = omega (arith, length-take count (drop at bytes)) in
    let power : 10 ^ length ds ≤ 10 ^ 18 = pow-le-pow_right (omega arith) short in
    omega (arith, below, power, is)

pub digits_step : (bytes : List ℕ) (at count : ℕ) → at + 19 ≤ length bytes → count < 19 → list_all is_ascii_digit (take count (drop at bytes)) ≡ true → is_ascii_digit (get_or bytes (at + count) 0) ≡ true
    → list_all is_ascii_digit (take (count + 1) (drop at bytes)) ≡ true
digits_step bytes at count room few digits here =
    let lt : count < length (drop at bytes) = omega (arith, length-drop at bytes) in
    digits_more (drop at bytes) count lt digits (ap is_ascii_digit (get_or-drop at bytes count 0) ∙ here)

pub value_step : (bytes : List ℕ) (at count v : ℕ) → at + 19 ≤ length bytes → count < 19 → v ≡ digits_value 10 (take count (drop at bytes)) → is_ascii_digit (get_or bytes (at + count) 0) ≡ true
    → v * 10 + (get_or bytes (at + count) 0 - 48) ≡ digits_value 10 (take (count + 1) (drop at bytes))
value_step bytes at count v room few is here =
    let lt : count < length (drop at bytes) = omega (arith, length-drop at bytes) in
    ap (λ k. v * 10 + (k - 48)) (sym (get_or-drop at bytes count 0)) ∙ value_grows (drop at bytes) count v lt is (ap is_ascii_digit (get_or-drop at bytes count 0) ∙ here)

pub natural_stands : (bytes : List ℕ) (at v count : ℕ) → at + 20 ≤ length bytes → 0 < count → count ≤ 19 → (1 < count → get_or bytes at 0 ≡ 48 → ⊥) → list_all is_ascii_digit (take count (drop at bytes)) ≡ true
    → v ≡ digits_value 10 (take count (drop at bytes)) → v < 2 ^ 64 → get_or bytes (at + count) 0 ≡ 10 → Stands bytes at (natural_text v) 10 20 (at + count + 1)
natural_stands bytes at v count room some most first digits is small newline =
    let t = take count (drop at bytes) in
    let long : length t ≡ count = length-take-le count (drop at bytes) (omega (arith, length-drop at bytes)) in
    let at_first : get_or t 0 0 ≡ get_or bytes at 0 = get_or-take count (drop at bytes) 0 0 some ∙ get_or-drop at bytes 0 0 ∙ ap (λ n. get_or bytes n 0) (omega arith) in
    let read = natural_is t v (omega (arith, long)) (λ more zero. first (omega (arith, long, more)) (sym at_first ∙ zero)) digits is small in
    let found = natural_takes t v read in
    let same : found.0 ≡ v = omega (arith, found.2, small) in
    record {
      reads =
          sym (take-append-drop count (drop at bytes))
          ∙ ap (λ (u : List ℕ). t ++ u) (drop-drop count at bytes ∙ next_is bytes (at + count) (at + count + 1) 10 (omega arith) refl newline)
          ∙ ap (λ (u : List ℕ). u ++ (10 ∷ drop (at + count + 1) bytes)) (sym found.1 ∙ ap natural_text same);
      within = omega arith;
    }

pub plain_stands : (bytes : List ℕ) (at m end : ℕ) → Stands bytes at (natural_text m) 10 20 end → Stands bytes at (whole_text (with_sign false m)) 10 21 end
plain_stands bytes at m end s = record { reads = s.reads; within = omega (arith, s.within) }

pub minus_stands : (bytes : List ℕ) (at m end : ℕ) → at < length bytes → get_or bytes at 0 ≡ 45 → (m ≡ 0 → ⊥) → Stands bytes (at + 1) (natural_text m) 10 20 end → Stands bytes at (whole_text (with_sign true m)) 10 21 end
minus_stands bytes at zero end lt minus above s = absurd (above refl)
minus_stands bytes at (suc m) end lt minus above s = record {
  reads = next_is bytes at (at + 1) 45 lt refl minus ∙ ap (λ (u : List ℕ). 45 ∷ u) s.reads;
  within = omega (arith, s.within);
}

-- ---- parts one after another
pub then_stands : (t u x y rest : List ℕ) → x ≡ t ++ (32 ∷ y) → y ≡ u ++ rest → x ≡ (t ++ (32 ∷ u)) ++ rest
then_stands t u x y rest first second = first ∙ ap (λ (v : List ℕ). t ++ (32 ∷ v)) second ∙ sym (append_assoc t (32 ∷ u) rest)

-- an operation's name before its operands
before_operands : (kind : Arity) (line : QuickLine) (name : List ℕ) → join_with_byte 32 (name ∷ (operand_tokens (quick_operands kind line) ++ [])) ≡ name ++ (32 ∷ join_with_byte 32 (operand_tokens (quick_operands kind line)))
before_operands Unary line name = refl
before_operands Binary line name = refl
before_operands ByInteger line name = refl
before_operands Ternary line name = refl

shaped : (kind : Arity) (line : QuickLine) → kind ≡ arity_of (quick_operands kind line)
shaped Unary line = refl
shaped Binary line = refl
shaped ByInteger line = refl
shaped Ternary line = refl

-- ---- the line
-- all its registers are among the first so many
pub record Declared (count : ℕ) (line : QuickLine) : Type 0 where
  pub dest : line.dest < count
  pub a : line.a < count
  pub b : line.b < count
  pub c : line.c < count

is_quick : (count : ℕ) (bytes : List ℕ) (line : QuickLine) (end : ℕ) (o : Option Applied) → line.applied ≡ o → IsLine (applied_or_set o line) → bytes ≡ line_text (applied_or_set o line) ++ (10 ∷ drop end bytes) → end ≤ length bytes
    → Declared count line → IsQuickLine count bytes line end
is_quick count bytes line end o applied is reads within declared =
    let l = applied_or_set o line in
    let text = line_text l in
    let long : length bytes ≡ length text + (1 + length (drop end bytes)) = ap length reads ∙ length-append text (10 ∷ drop end bytes) ∙ ap (λ n. length text + n) (omega arith) in
    let at_end : length (ended text) ≡ end = omega (arith, long, length-append text (10 ∷ []), length-drop end bytes, within) in
    let whole : bytes ≡ ended text ++ drop end bytes = reads ∙ sym (append_assoc text (10 ∷ []) (drop end bytes)) in
    let front : take end bytes ≡ ended text = ap (take end) whole ∙ take_at (ended text) (drop end bytes) end at_end in
    record {
      reads = ap line_of_piece front ∙ line_read l is ∙ ap (λ (p : Option Applied). Some (applied_or_set p line)) (sym applied);
      cut = ap pieces reads ∙ pieces_ended text (drop end bytes) (line_lacks l) ∙ ap (λ (p : List ℕ). p ∷ pieces (drop end bytes)) (sym front);
      some = omega (arith, at_end, length-append text (10 ∷ []));
      within = within;
      dest = declared.dest;
      a = declared.a;
      b = declared.b;
      c = declared.c;
    }

pub set_is_quick : (count : ℕ) (bytes : List ℕ) (line : QuickLine) (at end : ℕ) → line.applied ≡ None → Declared count line → Stands bytes 0 (register_text line.dest) 32 4 at → drop at bytes ≡ codes "set " ++ drop (at + 4) bytes
    → Stands bytes (at + 4) (whole_text (quick_number line)) 10 21 end → 64 ≤ length bytes → IsQuickLine count bytes line end
set_is_quick count bytes line at end applied declared first name number room =
    let rest = 10 ∷ drop end bytes in
    let whole = whole_text (quick_number line) in
    let named : drop at bytes ≡ (codes "set" ++ (32 ∷ whole)) ++ rest = then_stands (codes "set") whole (drop at bytes) (drop (at + 4) bytes) rest name number.reads in
    is_quick count bytes line end None applied tt (then_stands (register_text line.dest) (codes "set" ++ (32 ∷ whole)) bytes (drop at bytes) rest first.reads named) (omega (arith, first.within, number.within, room)) declared

pub applied_is_quick : (count : ℕ) (bytes : List ℕ) (line read : QuickLine) (at next place end : ℕ) (x : Applied) (kind : Arity) → kind ≡ arity x.op → line.applied ≡ Some x → line.dest < count → Stands bytes 0 (register_text line.dest) 32 4 at → Stands bytes at (policy_name x.policy) 32 12 next
    → Stands bytes next (op_name x.op) 32 18 place → HasOperands kind count bytes place line read end → 64 ≤ length bytes → IsQuickLine count bytes read end
applied_is_quick count bytes line read at next place end x kind same applied dest first policy op found room =
    let operands : HasOperands (arity x.op) count bytes place line read end = subst (λ (k : Arity). HasOperands k count bytes place line read end) same found in
    let rest = 10 ∷ drop end bytes in
    let xs = join_with_byte 32 (operand_tokens (quick_operands (arity x.op) read)) in
    let from_op = then_stands (op_name x.op) xs (drop next bytes) (drop place bytes) rest op.reads operands.text in
    let from_policy = then_stands (policy_name x.policy) (op_name x.op ++ (32 ∷ xs)) (drop at bytes) (drop next bytes) rest policy.reads from_op in
    let whole = then_stands (register_text line.dest) (policy_name x.policy ++ (32 ∷ (op_name x.op ++ (32 ∷ xs)))) bytes (drop at bytes) rest first.reads from_policy in
    let text : register_text line.dest ++ (32 ∷ (policy_name x.policy ++ (32 ∷ (op_name x.op ++ (32 ∷ xs))))) ≡ line_text (applied_or_set (Some x) read) =
    ap (λ (d : ℕ). register_text d ++ (32 ∷ (policy_name x.policy ++ (32 ∷ (op_name x.op ++ (32 ∷ xs)))))) (sym operands.dest)
    ∙ ap (λ (t : List ℕ). register_text read.dest ++ (32 ∷ (policy_name x.policy ++ (32 ∷ t)))) (sym (before_operands (arity x.op) read (op_name x.op))) in
    is_quick count bytes read end (Some x) (operands.applied ∙ applied) (shaped (arity x.op) read, refl) (whole ∙ ap (λ (t : List ℕ). t ++ rest) text) (omega (arith, first.within, policy.within, op.within, operands.within, room))
    record { dest = rw operands.dest dest; a = operands.a; b = operands.b; c = operands.c }
