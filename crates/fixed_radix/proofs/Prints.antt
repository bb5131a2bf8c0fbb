-- What a number prints in a base.
use Rattle.std.proofs.Common.{◌≡◌, ◌==◌, ◌+◌, ◌-◌, ◌*◌, ◌/◌, ◌%◌, ◌^◌, ◌<◌, ◌≤◌, ◌++◌, ℕ, ℤ, zero, suc, pos, negsuc, nat_abs, nat_le, Bool, true, false, List, [], ◌∷◌, length, length-drop, take, drop, replicate, min, max, Option, Some, None, Result, if◌then◌else◌, cond, refl, sym, ap, ◌∙◌, subst, inl, inr, add-zero, append-nil, mul_assoc, mul_right_comm, mul-zero, pow-add, arith}
use Rattle.std.specs.Prelude.{int_lt, IsNone}
use Rattle.std.specs.Option.{unwrap_or}
use Rattle.std.specs.Fmt.{IsDefaultSpec, IsPlainFormatter, WritesInCalls, WritesOnOk, WritesStyledOnOk, char_count, formatter_spec, formatter_writer, padded_integral, padding_before, radix_prefix, sign_text, spec_precision}
use Rattle.std.specs.declared.fmt.Error.{Error}
use Rattle.std.specs.declared.fmt.Formatter.{Formatter}
use Rattle.std.proofs.Math.Nat.{one-le-pow, pow-zero}
use Rattle.std.proofs.lemmas.Bool.{cases_lt}
use Rattle.std.proofs.lemmas.Bool.Decides.{nat_tests}
use Rattle.std.proofs.lemmas.Int.{ints}
use Rattle.std.proofs.lemmas.List.{take_all}
use Rattle.std.proofs.lemmas.Nat.{div-add-mod', mod-mul-add, mul-le}
use Rattle.fixed_word.specs.declared.rounding.Rounding.TheVariants.{Even}
use Rattle.fixed_decimal.specs.Text.{after_sign}
use Rattle.fixed_decimal.specs.inside.Stepped.{stepped}
use Rattle.fixed_radix.specs.declared.bases.Base.{Base}
use Rattle.fixed_radix.specs.Bases.{base_of, base_text, exact_places, in_base, is_upper, plain_in, styled_in}
use Rattle.fixed_radix.proofs.Powers.{pow_pow}
use Rattle.fixed_radix.proofs.Shown.{text_longer}
use Rattle.fixed_radix.proofs.Units.{size_in, size_longer}

-- so many digits take few bits
pub shift_small : (b p q e f : ℕ) → p ≡ min q (max e 1) → b * e < f + b → b ≤ 4 → b * p ≤ f + 4
shift_small b p q zero f is lt le =
    let m = mul-le b p b 1 (omega arith) (omega (arith, is)) in
    omega arith
shift_small b p q (suc e) f is lt le =
    let m = mul-le b p b (suc e) (omega arith) (omega (arith, is)) in
    omega arith

-- one digit more than the exact ones is exact too
exact_more : (m b e j d : ℕ) → 0 < d → m * b ^ e % d ≡ 0 → m * b ^ (e + j) % d ≡ 0
exact_more m b e j d h left =
    let q = m * b ^ e / d in
    let whole : m * b ^ e ≡ q * d = omega (arith, div-add-mod' (m * b ^ e) d, left) in
    let more : m * b ^ (e + j) ≡ q * b ^ j * d + 0 =
    ap (λ n. m * n) (pow-add b e j) ∙ sym (mul_assoc m (b ^ e) (b ^ j)) ∙ ap (λ n. n * b ^ j) whole ∙ mul_right_comm q d (b ^ j) ∙ sym (add-zero (q * b ^ j * d)) in
    ap (λ n. n % d) more ∙ mod-mul-add (q * b ^ j) d 0 h

longer : (b : ℕ) (u : Bool) (a : ℤ) (f p q : ℕ) → 0 < b → nat_abs a * b ^ suc p % 2 ^ f ≡ 0 → suc p ≤ q → base_text b u (in_base b a f (suc p)) (suc p) ++ replicate (q - suc p) 48 ≡ base_text b u (in_base b a f q) q
longer b u a f p q h left le =
    let j = q - suc p in
    let long : suc p + j ≡ q = omega arith in
    sym (text_longer b u (in_base b a f (suc p)) p j h)
    ∙ ap (λ n. base_text b u n (suc p + j)) (sym (size_longer b a f (suc p) j left))
    ∙ ap (λ k. base_text b u (in_base b a f k) k) long

-- zeros behind the exact digits
pub padded_in : (b : ℕ) (u : Bool) (a : ℤ) (f p q e : ℕ) → 0 < b → p ≡ min q (max e 1) → nat_abs a * b ^ e % 2 ^ f ≡ 0 → base_text b u (in_base b a f p) p ++ replicate (q - p) 48 ≡ base_text b u (in_base b a f q) q
padded_in b u a f p q e h is left = elim (cases_lt (max e 1) q) [
  | inl more ↦ beyond e left more (is ∙ omega arith)
  | inr few ↦
      let same : p ≡ q = omega (arith, is) in
      let none : q - p ≡ 0 = omega (arith, same) in
      ap (λ k. base_text b u (in_base b a f p) p ++ replicate k 48) none ∙ append-nil (base_text b u (in_base b a f p) p) ∙ ap (λ k. base_text b u (in_base b a f k) k) same
]
  where
    beyond : (e : ℕ) → nat_abs a * b ^ e % 2 ^ f ≡ 0 → max e 1 < q → p ≡ max e 1 → base_text b u (in_base b a f p) p ++ replicate (q - p) 48 ≡ base_text b u (in_base b a f q) q
    beyond zero left more e = let one : p ≡ 1 = omega (arith, e) in ap (λ k. base_text b u (in_base b a f k) k ++ replicate (q - k) 48) one ∙ longer b u a f 0 q h (exact_more (nat_abs a) b 0 1 (2 ^ f) (one-le-pow f 2 (omega arith)) left) (omega arith)
    beyond (suc k) left more e = let one : p ≡ suc k = omega (arith, e) in ap (λ k. base_text b u (in_base b a f k) k ++ replicate (q - k) 48) one ∙ longer b u a f k q h left (omega arith)

pub shown_is : (o : Option ℕ) (q e b : ℕ) (a : ℤ) (f : ℕ) → q ≡ unwrap_or o e → e ≡ exact_places b (nat_abs a) f → q ≡ unwrap_or o (exact_places b (nat_abs a) f)
shown_is None q e b a f is exact = is ∙ exact
shown_is (Some p) q e b a f is exact = is

-- the digits that are put, with the zeros behind them
pub record IsPut (base : Base) (a : ℤ) (f bits m e p q start : ℕ) (u : Bool) (buffer digits : List ℕ) : Type 0 where
  pub bits_is : 2 ^ bits ≡ base_of base
  pub upper : u ≡ is_upper base
  pub size : m ≡ nat_abs a
  pub exact : m * 2 ^ (bits * e) % 2 ^ f ≡ 0
  pub few : p ≡ min q (max e 1)
  pub long : length buffer ≡ 130
  pub text : drop start buffer ≡ base_text (2 ^ bits) u (stepped Even false (m * 2 ^ (bits * p)) (2 ^ f)) p
  pub shown : digits ≡ take (130 - start) (drop start buffer)

pub all_in : (base : Base) (a : ℤ) (f bits m e p q start : ℕ) (u : Bool) (buffer digits : List ℕ) → IsPut base a f bits m e p q start u buffer digits
    → digits ++ replicate (q - p) 48 ≡ base_text (base_of base) (is_upper base) (in_base (base_of base) a f q) q
all_in base a f bits m e p q start u buffer digits i =
    let b : ℕ = 2 ^ bits in
    let units : stepped Even false (m * 2 ^ (bits * p)) (2 ^ f) ≡ in_base b a f p =
    ap (λ n. stepped Even false (m * n) (2 ^ f)) (sym (pow_pow 2 bits p)) ∙ ap (λ n. stepped Even false (n * b ^ p) (2 ^ f)) i.size ∙ sym (size_in b a f p) in
    let left : nat_abs a * b ^ e % 2 ^ f ≡ 0 = ap (λ n. n * b ^ e % 2 ^ f) (sym i.size) ∙ ap (λ n. m * n % 2 ^ f) (pow_pow 2 bits e) ∙ i.exact in
    ap (λ (ds : List ℕ). ds ++ replicate (q - p) 48) (i.shown ∙ take_all (130 - start) (drop start buffer) (omega (arith, length-drop start buffer, i.long)) ∙ i.text ∙ ap (λ n. base_text b u n p) units)
    ∙ padded_in b u a f p q e (one-le-pow bits 2 (omega arith)) i.few left
    ∙ ap (λ k. base_text k u (in_base k a f q) q) i.bits_is ∙ ap (λ v. base_text (base_of base) v (in_base (base_of base) a f q) q) i.upper

pub exact_is : (base : Base) (a : ℤ) (f bits m e : ℕ) → 2 ^ bits ≡ base_of base → m ≡ nat_abs a → e ≡ exact_places (2 ^ bits) m f → e ≡ exact_places (base_of base) (nat_abs a) f
exact_is base a f bits m e b s is = is ∙ ap (λ k. exact_places k m f) b ∙ ap (λ k. exact_places (base_of base) k f) s

pub styled_is : (layout : Bool → List ℕ → List ℕ → List ℕ) (precision : Option ℕ) (base : Base) (a : ℤ) (f n q : ℕ) (b : Bool) (prefix digits : List ℕ) → f ≤ n → b ≡ int_lt a (pos 0) → prefix ≡ radix_prefix (base_of base) → q ≡ unwrap_or precision (exact_places (base_of base) (nat_abs a) f) → digits ≡ base_text (base_of base) (is_upper base) (in_base (base_of base) a f q) q
    → Some (layout b prefix digits) ≡ styled_in layout precision base a f n
styled_is layout precision base a f n q b prefix digits le below pre places shown =
    let fits : nat_le f n ≡ true = grind (arith, nat_tests) in
    let p = unwrap_or precision (exact_places (base_of base) (nat_abs a) f) in
    ap (λ c. Some (layout c prefix digits)) below ∙ ap (λ (l : List ℕ). Some (layout (int_lt a (pos 0)) l digits)) pre
    ∙ ap (λ (ds : List ℕ). Some (layout (int_lt a (pos 0)) (radix_prefix (base_of base)) ds)) (shown ∙ ap (λ k. base_text (base_of base) (is_upper base) (in_base (base_of base) a f k) k) places)
    ∙ sym (ap (λ c. if c then Some (layout (int_lt a (pos 0)) (radix_prefix (base_of base)) (base_text (base_of base) (is_upper base) (in_base (base_of base) a f p) p)) else None) fits)

-- ---- no options
padding_zero : (a b : Bool) → cond a 0 (cond b (0 / 2) 0) ≡ 0
padding_zero true b = refl
padding_zero false true = refl
padding_zero false false = refl

cond_self : {A : Type 0} (t : Bool) (x : A) → cond t x x ≡ x
cond_self true x = refl
cond_self false x = refl

plain_layout : {W : Type 0} (f : Formatter W) (negative : Bool) (prefix digits : List ℕ) → IsPlainFormatter f → padded_integral (formatter_spec f) negative prefix digits ≡ sign_text negative ++ digits
unfolding padded_integral
plain_layout f negative prefix digits p =
    let s = formatter_spec f in
    let none : s.width - length digits - length (sign_text negative) - char_count [] ≡ 0 = omega (arith, p.bare.width) in
    let side : padding_before s 0 3 ≡ 0 = padding_zero _ _ in
    rw (p.bare.plus, p.bare.alternate, none, side) (simp (cond_self, append-nil))

signed : (a : ℤ) (digits : List ℕ) → sign_text (int_lt a (pos 0)) ++ digits ≡ after_sign a digits
signed (pos n) digits = let e : int_lt (pos n) (pos 0) ≡ false = grind (arith, ints) in ap (λ b. sign_text b ++ digits) e
signed (negsuc n) digits = refl

pub plain_written : {W : Type 0} (took : W → List ℕ → W → Type 0) (f g : Formatter W) (r : Result (Unit {0}) Error) (a : ℤ) (b : Bool) (prefix digits : List ℕ) → b ≡ int_lt a (pos 0) → WritesStyledOnOk took f r (padded_integral (formatter_spec f) b prefix digits) g → WritesOnOk took f r (after_sign a digits) g
plain_written took f g r a b prefix digits below styled plain done =
    let h = styled plain.flush done in
    record {
      wrote = subst (λ (bytes : List ℕ). WritesInCalls took (formatter_writer f) bytes (formatter_writer g)) (plain_layout f b prefix digits plain ∙ ap (λ c. sign_text c ++ digits) below ∙ signed a digits) h.wrote;
      plain = record { bare = subst IsDefaultSpec (sym h.spec) plain.bare; flush = h.flush };
    }

pub plain_is : (base : Base) (a : ℤ) (f n : ℕ) → f ≤ n → (let p = exact_places (base_of base) (nat_abs a) f in Some (after_sign a (base_text (base_of base) (is_upper base) (in_base (base_of base) a f p) p))) ≡ plain_in base a f n
plain_is base a f n le =
    let fits : nat_le f n ≡ true = grind (arith, nat_tests) in
    let p = exact_places (base_of base) (nat_abs a) f in
    sym (ap (λ c. if c then Some (after_sign a (base_text (base_of base) (is_upper base) (in_base (base_of base) a f p) p)) else None) fits)

pub no_precision : (o : Option ℕ) (q e : ℕ) → IsNone o → q ≡ unwrap_or o e → q ≡ e
no_precision None q e h is = is
no_precision (Some p) q e h is = cc
