-- A text and its newline as a piece.
use Rattle.std.proofs.Common.{◌≡◌, ◌-◌, ◌==◌, ℕ, Bool, true, false, not, eqb, if◌then◌else◌, List, [], ◌∷◌, ◌++◌, length, take, Some, None, refl, ap, ◌∙◌, arith, length-append}
use Rattle.std.specs.Prelude.{slice_index}
use Rattle.std.specs.List.{onto_first}
use Rattle.std.proofs.lemmas.Bool.{false≢true}
use Rattle.std.proofs.Math.Seq.{take-append_seam, get_or-append_seam}
use Rattle.fixed_word.specs.Pieces.{pieces, body}
use Rattle.fixed_digits.proofs.Decimals.{both}
use Rattle.fixed_digits.proofs.Lacking.{lacks}
use Rattle.fixed_text.specs.declared.names.WordName.{WordName}
use Rattle.fixed_text.specs.declared.names.WordName.TheVariants.{I8, I16, I32, I64, U8, U16, U32, U64}
use Rattle.fixed_text.specs.Words.{word_name}

differs : (x c : ℕ) (b : Bool) → eqb x c ≡ b → not b ≡ true → eqb x c ≡ false
differs x c true is h = absurd (false≢true h)
differs x c false is h = is

-- a text without a newline, and a newline
pub pieces_ended : (t rest : List ℕ) → lacks 10 t ≡ true → pieces (t ++ (10 ∷ rest)) ≡ (t ++ (10 ∷ [])) ∷ pieces rest
pieces_ended [] rest h = refl
pieces_ended (x ∷ xs) rest h =
    let parts = both (not (eqb x 10)) (lacks 10 xs) h in
    ap (λ (b : Bool). if b then (10 ∷ []) ∷ pieces (xs ++ (10 ∷ rest)) else onto_first x (pieces (xs ++ (10 ∷ rest)))) (differs x 10 (eqb x 10) refl parts.0)
    ∙ ap (onto_first x) (pieces_ended xs rest parts.1)

pub body_ended : (t : List ℕ) → body (t ++ (10 ∷ [])) ≡ Some t
body_ended t =
    let ended = t ++ (10 ∷ []) in
    let back : length (t ++ (10 ∷ [])) - 1 ≡ length t = omega (arith, length-append t (10 ∷ [])) in
    ap (λ n. if slice_index ended n == 10 then Some (take n ended) else None) back
    ∙ ap (λ b. if b == 10 then Some (take (length t) ended) else None) (get_or-append_seam t 10 [] 0)
    ∙ ap Some (take-append_seam t (10 ∷ []))

-- the name of a word has no newline
pub word_lacks : (w : WordName) → lacks 10 (word_name w) ≡ true
word_lacks I8 = refl
word_lacks I16 = refl
word_lacks I32 = refl
word_lacks I64 = refl
word_lacks U8 = refl
word_lacks U16 = refl
word_lacks U32 = refl
word_lacks U64 = refl
