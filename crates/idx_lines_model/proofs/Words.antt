-- The arms of `read_line`, over plain variables. Assumes nothing.
use Rattle.idx_numbers_model.specs.Answers.{lowest}
use borrow.Author.Tests.{eqb-true, eqb-false}
use lib.Dec.{eqb}
use Prim.Native.Nat.{ℕ, ◌+◌, ◌-◌, ◌≤◌, ◌<◌}
use mathlib.Core.Path.{◌≡◌, refl, sym, ap, ◌∙◌, ap₂}
use mathlib.Core.Bool.{Bool, true, false}
use Rattle.std.specs.Prelude.{Option, Some as some, None as none}
use mathlib.Core.List.{List, [], ◌∷◌, ◌++◌}
use native.Mathlib.Omega.{arith}
use lib.ListN.{length, take, drop, length-drop, get_or, take-append-drop}
use lib.Seq.{take_all, drop-cons}
use Rattle.outcome.specs.Outcome.{Res, ok, refuse}
use Rattle.grammar.specs.Index.{Said, size, palette, timestamp, size_word, palette_word, timestamp_word}
use Rattle.grammar.specs.IndexParts.{letter_x}
use Rattle.grammar.specs.Parts.{Part}
use Rattle.idx_numbers_model.specs.Parts.{part, strip, moved, after, found, starts, all}
use Rattle.idx_lines_model.proofs.Grammar.{SaysThis, line-is}
use Rattle.grammar.specs.IndexCues.{palette_from}
use Rattle.idx_lines_model.specs.Answers.{lean, line_says, one_of, palette_after, LineRead, TokensRead}
use Rattle.idx_lines_model.specs.Lines.{halves, size_or, timestamp_at, line_of}
use Rattle.idx_numbers_model.proofs.Grammar.{strip-on, strip-is, never}
use Rattle.idx_numbers_model.proofs.Steps.{found-is, starts-yes, starts-no, small_bytes, word-front}
use Rattle.std.specs.Prelude.{Result, Ok}
use Rattle.outcome.specs.declared.Refusal.{Refusal}
use Rattle.idx_lines_model.specs.declared.Directive.{Directive}

after-yes : (w l : List ℕ) (at : ℕ) → starts w l ≡ true → after w (part at l) ≡ some (part (at + length w) (drop (length w) l))
after-yes w l at e = ap (moved (at + length w)) (found-is w l e).0

after-no : (w l : List ℕ) (at : ℕ) → starts w l ≡ false → after w (part at l) ≡ none
after-no w l at e = go (strip w l) e
  where
    go : (o : Option (List ℕ)) → found o ≡ false → moved (at + length w) o ≡ none
    go none f = refl
    go (some r) f = never (cc)

pub word_in : (w l : List ℕ) (r : Bool) → r ≡ starts w l → r ≡ true → length w ≤ length l
word_in w l r e f = (found-is w l (sym e ∙ f)).1

same_rest : (n : ℕ) (l : List ℕ) → take (length l - n) (drop n l) ≡ drop n l
same_rest n l = take_all (length l - n) (drop n l) (rw (length-drop n l) (omega arith))

-- of the three words, a line starts with one at most
apart : (w v l : List ℕ) → ((r : List ℕ) → strip v (w ++ r) ≡ none) → starts w l ≡ true → starts v l ≡ false
apart w v l h e = go (strip w l) refl e
  where
    go : (o : Option (List ℕ)) → strip w l ≡ o → found o ≡ true → starts v l ≡ false
    go none q f = never (cc)
    go (some r) q f = ap found (ap (strip v) (strip-is w l r q) ∙ h r)

stamp-apart-size : (l : List ℕ) → starts timestamp_word l ≡ true → starts size_word l ≡ false
unfolding strip
stamp-apart-size l e = apart timestamp_word size_word l (λ r. refl) e

stamp-apart-palette : (l : List ℕ) → starts timestamp_word l ≡ true → starts palette_word l ≡ false
unfolding strip
stamp-apart-palette l e = apart timestamp_word palette_word l (λ r. refl) e

palette-apart-size : (l : List ℕ) → starts palette_word l ≡ true → starts size_word l ≡ false
unfolding strip
palette-apart-size l e = apart palette_word size_word l (λ r. refl) e

-- what is no palette line says nothing of the palette
other-colours : (was : List ℕ) (o : Option Said) (i : Part) → starts palette_word i.bytes ≡ false → SaysThis i o → was ≡ palette_from was (one_of o)
unfolding palette_from
other-colours was none i e h = refl
other-colours was (some (size l w h)) i e k = refl
other-colours was (some (timestamp l ps fs n)) i e k = refl
other-colours was (some (palette l ts)) i e k =
    let q : starts palette_word i.bytes ≡ true = ap (λ (x : List ℕ). found (strip palette_word x)) k.2.whole ∙ ap found (strip-on palette_word k.1.bytes) in
    never (cc)

module _ (l was : List ℕ) where
  same-palette : starts palette_word l ≡ false → (at : ℕ) → was ≡ palette_after was (line_of (part at l))
  same-palette e at = go (line_of (part at l)) refl
    where
      go : (x : Res (Option Said)) → line_of (part at l) ≡ x → was ≡ palette_after was x
      go (ok o) q = other-colours was o (part at l) e (line-is (part at l) o q)
      go (refuse n) q = refl

  module _ (a : Bool) (ea : a ≡ starts timestamp_word l) where
    pub line-timestamp : a ≡ true → (r : Result (Option Directive) Refusal) → ((i : Part) (at : ℕ) → line_says r ≡ lean (timestamp_at i (part at (take (length l - 10) (drop 10 l))))) → LineRead l was r was
    unfolding line_of
    line-timestamp f r e =
        let y : starts timestamp_word l ≡ true = sym ea ∙ f in
        record {
          says = λ at. e (part at l) (at + 10) ∙ rw (same_rest 10 l, after-no size_word l at (stamp-apart-size l y), after-no palette_word l at (stamp-apart-palette l y), after-yes timestamp_word l at y);
          palette = same-palette (stamp-apart-palette l y);
        }

    module _ (na : a ≡ false) (b : Bool) (eb : b ≡ starts palette_word l) where
      pub line-palette : b ≡ true → (r : Result (Option Directive) Refusal) (now : List ℕ) → TokensRead (take (length l - 8) (drop 8 l)) was r now → LineRead l was r now
      unfolding line_of
      line-palette f r now e =
          let y : starts palette_word l ≡ true = sym eb ∙ f in
          record {
            says = λ at. e.says (part at l) (at + 8) ∙ rw (same_rest 8 l, after-no size_word l at (palette-apart-size l y), after-yes palette_word l at y);
            palette = λ at. e.palette (part at l) (at + 8) ∙ rw (same_rest 8 l, after-no size_word l at (palette-apart-size l y), after-yes palette_word l at y);
          }

      module _ (nb : b ≡ false) (c : Bool) (ec : c ≡ starts size_word l) where
        pub line-size : c ≡ true → (r : Result (Option Directive) Refusal) → ((i : Part) (at : ℕ) → line_says r ≡ lean (size_or i (halves letter_x (part at (take (length l - 5) (drop 5 l)))))) → LineRead l was r was
        unfolding line_of
        line-size f r e =
            record {
              says = λ at. e (part at l) (at + 5) ∙ rw (same_rest 5 l, after-yes size_word l at (sym ec ∙ f));
              palette = same-palette (sym eb ∙ nb);
            }

        pub line_other : c ≡ false → LineRead l was (Ok none) was
        unfolding line_of
        line_other f =
            record {
              says = λ at. rw (after-no size_word l at (sym ec ∙ f), after-no palette_word l at (sym eb ∙ nb), after-no timestamp_word l at (sym ea ∙ na));
              palette = same-palette (sym eb ∙ nb);
            }

-- ---- the words that are tested as numbers
-- `timestamp:` by its first eight letters, and two more
abbrev first_eight : List ℕ
first_eight = 116 ∷ 105 ∷ 109 ∷ 101 ∷ 115 ∷ 116 ∷ 97 ∷ 109 ∷ []

module _ (l : List ℕ) (fits : 10 ≤ length l) (low : (i : ℕ) → get_or l i 0 < 256) (a : ℕ) (first : a ≡ lowest (take 8 (drop 0 l))) where
  pub stamp-not : (k : ℕ) → k ≡ lowest first_eight → (a ≡ k → ⊥) → false ≡ starts timestamp_word l
  stamp-not k q n = sym (starts-no timestamp_word l (λ r e. n (first ∙ ap (λ (x : List ℕ). lowest (take 8 x)) e ∙ sym q)))

  pub stamp-ninth : (get_or l 8 0 ≡ 112 → ⊥) → false ≡ starts timestamp_word l
  stamp-ninth n = sym (starts-no timestamp_word l (λ r e. n (ap (λ (x : List ℕ). get_or x 8 0) e)))

  pub stamp-yes : (k : ℕ) → k ≡ lowest first_eight → a ≡ k → get_or l 8 0 ≡ 112 → eqb (get_or l 9 0) 58 ≡ starts timestamp_word l
  unfolding all
  stamp-yes k q is n = go (eqb (get_or l 9 0) 58) refl
    where
      front-is : take 8 l ≡ first_eight
      front-is = word-front first_eight l (omega arith) low (small_bytes first_eight refl) a first (is ∙ q)

      rest-is : get_or l 9 0 ≡ 58 → drop 8 l ≡ 112 ∷ 58 ∷ drop 10 l
      rest-is e = drop-cons l 8 0 (omega arith) ∙ ap₂ (λ (x : ℕ) (y : List ℕ). x ∷ y) n (drop-cons l 9 0 (omega arith) ∙ ap (λ (x : ℕ). x ∷ drop 10 l) e)

      go : (t : Bool) → eqb (get_or l 9 0) 58 ≡ t → t ≡ starts timestamp_word l
      go true e =
          sym (starts-yes timestamp_word l (drop 10 l) (sym (take-append-drop 8 l) ∙ ap₂ (λ (x y : List ℕ). x ++ y) front-is (rest-is (eqb-true (get_or l 9 0) 58 e))))
      go false e = sym (starts-no timestamp_word l (λ r f. eqb-false (get_or l 9 0) 58 e (ap (λ (x : List ℕ). get_or x 9 0) f)))
