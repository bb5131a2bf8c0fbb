-- What is written piece by piece.
use Rattle.std.proofs.Common.{◌≡◌, ◌+◌, ◌-◌, ℕ, zero, suc, Bool, true, false, List, [], ◌∷◌, ◌++◌, length, length-append, replicate, if◌then◌else◌, Option, Some, None, ◌==◌, refl, sym, ap, ◌∙◌, subst, append-nil, append_assoc, arith}
use Rattle.std.specs.Char.{encode_utf8}
use Rattle.std.specs.Option.{unwrap_or}
use Rattle.std.proofs.lemmas.Bool.Decides.{nat_tests}
use Rattle.std.specs.List.{FoldsTo, concat, repeat}
use Rattle.std.specs.Fmt.{HasWrittenStyled, IsFlush, WritesInCalls, char_count, formatter_spec, number_padding, padded_integral, padding_before, shown_prefix, sign_text_with}
use Rattle.std.specs.declared.fmt.Formatter.{Formatter}
use Rattle.std.proofs.lemmas.List.{length-replicate}
use Rattle.std.proofs.lemmas.List.Folds.{concat-append}
use Rattle.std.proofs.lemmas.Str.{encode_ascii}

chained : {W : Type 0} (took : W → List ℕ → W → Type 0) (w : W) (xs : List (List ℕ)) (v : W) (ys : List (List ℕ)) (u : W) → FoldsTo took w xs v → FoldsTo took v ys u → FoldsTo took w (xs ++ ys) u
chained {W} took w [] v ys u p q = subst (λ (x : W). FoldsTo took x ys u) (sym p) q
chained took w (x ∷ xs) v ys u p q = (p.0, p.1, chained took p.0 xs v ys u p.2 q)

called : {W : Type 0} (took : W → List ℕ → W → Type 0) (w : W) (a : List ℕ) (v : W) (b : List ℕ) (u : W) → WritesInCalls took w a v → WritesInCalls took v b u → WritesInCalls took w (a ++ b) u
called took w a v b u p q = record {
  parts = p.parts ++ q.parts;
  calls = chained took w p.parts v q.parts u p.calls q.calls;
  whole = concat-append p.parts q.parts ∙ ap (λ (l : List ℕ). l ++ concat q.parts) p.whole ∙ ap (λ (l : List ℕ). a ++ l) q.whole;
}

pub nothing_written : {W : Type 0} (took : W → List ℕ → W → Type 0) (f : Formatter W) → IsFlush f → HasWrittenStyled took f [] f
nothing_written took f flush = record { wrote = record { parts = []; calls = refl; whole = refl }; spec = refl; flush = flush }

pub then_written : {W : Type 0} (took : W → List ℕ → W → Type 0) (f : Formatter W) (a : List ℕ) (g : Formatter W) (b : List ℕ) (h : Formatter W) → HasWrittenStyled took f a g → HasWrittenStyled took g b h → HasWrittenStyled took f (a ++ b) h
then_written took f a g b h p q = record { wrote = called took _ a _ b _ p.wrote q.wrote; spec = q.spec ∙ p.spec; flush = q.flush }

pub repeat_more : (n : ℕ) (s : List ℕ) → repeat (n + 1) s ≡ repeat n s ++ s
repeat_more zero s = append-nil s
repeat_more (suc n) s = ap (λ k. repeat k s) {x = suc n + 1} {y = suc (n + 1)} (omega arith) ∙ ap (λ l. s ++ l) (repeat_more n s) ∙ sym (append_assoc s (repeat n s) s)

pub once_more : {W : Type 0} (took : W → List ℕ → W → Type 0) (f g h : Formatter W) (n : ℕ) (s : List ℕ) → HasWrittenStyled took f (repeat n s) g → HasWrittenStyled took g s h → HasWrittenStyled took f (repeat (n + 1) s) h
once_more took f g h n s p q = subst (λ (l : List ℕ). HasWrittenStyled took f l h) (sym (repeat_more n s)) (then_written took f (repeat n s) g s h p q)

zeros_are : (n : ℕ) → repeat {A = ℕ} n (48 ∷ []) ≡ replicate n 48
zeros_are zero = refl
zeros_are (suc n) = ap (λ (l : List ℕ). 48 ∷ l) (zeros_are n)

zeros_text : (n : ℕ) → repeat n (encode_utf8 48) ≡ replicate n 48
zeros_text n = ap (λ (s : List ℕ). repeat n s) (encode_ascii 48 (omega arith)) ∙ zeros_are n

-- ---- the whole of it
abbrev layout : List ℕ → List ℕ → List ℕ → List ℕ → List ℕ → List ℕ → List ℕ → List ℕ
layout a s p z d y b = (a ++ s ++ p ++ z) ++ ((d ++ y) ++ b)

regroup : (a s p z d y b : List ℕ) → (((((a ++ s) ++ p) ++ z) ++ d) ++ y) ++ b ≡ layout a s p z d y b
regroup a s p z d y b =
    let t = ((a ++ s) ++ p) ++ z in
    ap (λ (l : List ℕ). l ++ b) (append_assoc t d y) ∙ append_assoc t (d ++ y) b

after_both : (z : Bool) (p q : ℕ) → p - (if z then 0 else q) - (if z then p else 0) ≡ (if z then 0 else p - q)
after_both true p q = omega arith
after_both false p q = omega arith

pub none_counted : char_count [] ≡ 0
unfolding char_count
none_counted = refl

-- as many letters as bytes
shown_count : (t : Bool) (prefix : List ℕ) → char_count prefix ≡ length prefix → char_count (if t then prefix else []) ≡ length {A = ℕ} (if t then prefix else [])
shown_count true prefix e = e
shown_count false prefix e = none_counted

width_left : (w d y n s p q : ℕ) → n ≡ d + y → p ≡ q → w - d - y - s - q ≡ w - n - s - p
width_left w d y n s p q e z = omega arith

pub laid_out : {W : Type 0} (took : W → List ℕ → W → Type 0) (f f1 f2 fp f3 f4 f5 g : Formatter W) (below : Bool) (sign prefix base digits : List ℕ) (zeros before inner after padding : ℕ)
    → sign ≡ sign_text_with (formatter_spec f).plus below
    → char_count prefix ≡ length prefix → base ≡ shown_prefix (formatter_spec f) prefix
    → padding ≡ (formatter_spec f).width - length digits - zeros - length sign - length base
    → before ≡ (if (formatter_spec f).zero then 0 else padding_before (formatter_spec f) padding 3)
    → inner ≡ (if (formatter_spec f).zero then padding else 0)
    → after ≡ padding - before - inner
    → HasWrittenStyled took f (repeat before (encode_utf8 (formatter_spec f).fill)) f1 → HasWrittenStyled took f1 sign f2 → HasWrittenStyled took f2 base fp
    → HasWrittenStyled took fp (repeat inner (encode_utf8 48)) f3 → HasWrittenStyled took f3 digits f4
    → HasWrittenStyled took f4 (repeat zeros (encode_utf8 48)) f5 → HasWrittenStyled took f5 (repeat after (encode_utf8 (formatter_spec f).fill)) g
    → HasWrittenStyled took f (padded_integral (formatter_spec f) below prefix (digits ++ replicate zeros 48)) g
unfolding padded_integral
laid_out took f f1 f2 fp f3 f4 f5 g below sign prefix base digits zeros before inner after padding esign ascii ebase epadding ebefore einner eafter w1 w2 wp w3 w4 w5 w6 =
    let s = formatter_spec f in
    let fill = encode_utf8 s.fill in
    let numeral = digits ++ replicate zeros 48 in
    let long : length numeral ≡ length digits + zeros = length-append digits (replicate zeros 48) ∙ ap (λ n. length digits + n) (length-replicate zeros 48) in
    let counted : char_count (shown_prefix s prefix) ≡ length base = shown_count s.alternate prefix ascii ∙ ap length (sym ebase) in
    let p : padding ≡ number_padding s below prefix (length numeral) =
    epadding ∙ ap (λ (l : List ℕ). s.width - length digits - zeros - length l - length base) esign ∙ width_left s.width (length digits) zeros (length numeral) (length (sign_text_with s.plus below)) (char_count (shown_prefix s prefix)) (length base) long counted in
    let front = ebefore ∙ ap (λ n. if s.zero then 0 else padding_before s n 3) p in
    let mid = einner ∙ ap (λ n. if s.zero then n else 0) p in
    let back = eafter ∙ ap (λ n. padding - n - inner) ebefore ∙ ap (λ n. padding - (if s.zero then 0 else padding_before s padding 3) - n) einner ∙ after_both s.zero padding (padding_before s padding 3) ∙ ap (λ n. if s.zero then 0 else n - padding_before s n 3) p in
    let e1 = ap (λ n. repeat n fill) front in
    let e3 = zeros_text inner ∙ ap (λ n. replicate n 48) mid in
    let e5 = zeros_text zeros in
    let e6 = ap (λ n. repeat n fill) back in
    let whole = then_written took f _ f5 _ g (then_written took f _ f4 _ f5 (then_written took f _ f3 _ f4 (then_written took f _ fp _ f3 (then_written took f _ f2 _ fp (then_written took f _ f1 _ f2 w1 w2) wp) w3) w4) w5) w6 in
    subst (λ (l : List ℕ). HasWrittenStyled took f l g)
    (regroup (repeat before fill) sign base (repeat inner (encode_utf8 48)) digits (repeat zeros (encode_utf8 48)) (repeat after fill)
    ∙ (λ i. layout (e1 i) (esign i) (ebase i) (e3 i) digits (e5 i) (e6 i)))
    whole

pub chosen_first : (r z : Bool) (x y : ℕ) → r ≡ z → r ≡ true → x ≡ (if z then x else y)
chosen_first r z x y e t = sym (ap (λ b. if b then x else y) (sym e ∙ t))

pub chosen_second : (r z : Bool) (x y : ℕ) → r ≡ z → r ≡ false → y ≡ (if z then x else y)
chosen_second r z x y e t = sym (ap (λ b. if b then x else y) (sym e ∙ t))

width_of : (w : ℕ) → unwrap_or (if w == 0 then None else Some w) 0 ≡ w
width_of zero = refl
width_of (suc w) = grind (arith, nat_tests)

pub width_is : (r : ℕ) (o : Option ℕ) (w : ℕ) → r ≡ unwrap_or o 0 → o ≡ (if w == 0 then None else Some w) → r ≡ w
width_is r o w e f = e ∙ ap (λ (p : Option ℕ). unwrap_or p 0) f ∙ width_of w

pub filled_with : {W : Type 0} (took : W → List ℕ → W → Type 0) (f g : Formatter W) (n x y : ℕ) → x ≡ y → HasWrittenStyled took f (repeat n (encode_utf8 x)) g → HasWrittenStyled took f (repeat n (encode_utf8 y)) g
filled_with took f g n x y e = subst (λ (sign : ℕ). HasWrittenStyled took f (repeat n (encode_utf8 sign)) g) e
