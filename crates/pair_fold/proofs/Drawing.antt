-- Lines of pairs drawn from the last place down, over the inverses. Assumes nothing.
use mathlib.Core.Path.{◌≡◌, refl, sym, ap, ◌∙◌}
use mathlib.Core.List.{List}
use Prim.Native.Nat.{ℕ, ◌+◌, ◌*◌, ◌-◌, ◌<◌, ◌≤◌}
use native.Mathlib.Omega.{arith}
use native.Mathlib.Decide.{ℕ_discrete}
use lib.ListN.{length, get_or, set, length-take, length-set}
use lib.Seq.{get_or-take, get_or-set_same, get_or-set_other}
use Rattle.algebra.specs.Lists.{row, length_row, get_or_row}
use Rattle.algebra.specs.Words.{PrimeField}
use Rattle.pairs.specs.Pair.{Pair as Of, real}
use Rattle.pair.specs.declared.Pair.{Pair}
use Rattle.pair.specs.PairWords.{pair_at, pair_words, Stands}
use Rattle.pair.specs.PairWordLaws.{re_word, im_word, by_pairs, length_pair_words, get_or_re, get_or_im}
use Rattle.pair_fold.specs.Steps.{pair_line, pair_lines, PairLinesLent, PairPlaceLent}

-- two words next to each other, written
written_other : (l : List ℕ) (i x y k : ℕ) → (k ≡ i → ⊥) → (k ≡ i + 1 → ⊥) → get_or (set (set l i x) (i + 1) y) k 0 ≡ get_or l k 0
written_other l i x y k p q = get_or-set_other (set l i x) (i + 1) k y 0 q ∙ get_or-set_other l i k x 0 p

written_first : (l : List ℕ) (i x y : ℕ) → i < length l → get_or (set (set l i x) (i + 1) y) i 0 ≡ x
written_first l i x y h = get_or-set_other (set l i x) (i + 1) i y 0 (λ e. omega arith) ∙ get_or-set_same l i x 0 h

written_second : (l : List ℕ) (i x y : ℕ) → i + 1 < length l → get_or (set (set l i x) (i + 1) y) (i + 1) 0 ≡ y
written_second l i x y h = get_or-set_same (set l i x) (i + 1) y 0 (omega (arith, length-set l i x))

module _ (𝓕 : PrimeField) where
  open 𝓕 use {modulus as P, field as F, words as W}
  open F use {ring as K}
  open K use {R as Element, 𝟘}
  open W use {el, val as word}

  -- where `left` of n places are still to be drawn: the lines of the others stand, and the words that those take are as they were
  pub record DrawnFrom (left n : ℕ) (f : ℕ → Of Element) (old out : List ℕ) : Type 0 where
    pub within : left ≤ n
    pub size : length out ≡ length old
    pub kept : (k : ℕ) → k < 2 * left → get_or out k 0 ≡ get_or old k 0
    pub re_drawn : (k : ℕ) → left ≤ k → k < n → get_or out (2 * k) 0 ≡ word (f k).re
    pub im_drawn : (k : ℕ) → left ≤ k → k < n → get_or out (2 * k + 1) 0 ≡ word (f k).im

  pub draw_none : (n : ℕ) (f : ℕ → Of Element) (old : List ℕ) → DrawnFrom n n f old old
  draw_none n f old =
      record { within = omega arith; size = refl; kept = λ k h. refl; re_drawn = λ k h l. absurd (omega arith); im_drawn = λ k h l. absurd (omega arith) }

  -- the last place that is left
  pub draw_turn : (j : ℕ) {left n : ℕ} {f : ℕ → Of Element} {old out : List ℕ} {x : Pair} → j + 1 ≡ left → length old ≡ 2 * n → DrawnFrom left n f old out → Stands 𝓕 (f j) x
      → DrawnFrom (left - 1) n f old (set (set out (2 * j) x.re.0) (2 * j + 1) x.im.0)
  draw_turn j {left} {n} {f} {old} {out} {x} h e p s =
      record {
        within = omega (arith, p.within);
        size = length-set (set out (2 * j) x.re.0) (2 * j + 1) x.im.0 ∙ length-set out (2 * j) x.re.0 ∙ p.size;
        kept = λ k g. written_other out (2 * j) _ _ k (λ q. omega arith) (λ q. omega arith) ∙ p.kept k (omega arith);
        re_drawn = λ k g b. re k (omega arith) b (ℕ_discrete k j);
        im_drawn = λ k g b. im k (omega arith) b (ℕ_discrete k j);
      }
    where
      re : (k : ℕ) → j ≤ k → k < n → Dec (k ≡ j) → get_or (set (set out (2 * j) x.re.0) (2 * j + 1) x.im.0) (2 * k) 0 ≡ word (f k).re
      re k g b (yes q) =
          ap (λ i. get_or (set (set out (2 * j) x.re.0) (2 * j + 1) x.im.0) (2 * i) 0) q
          ∙ written_first out (2 * j) _ _ (omega (arith, p.size)) ∙ re_word 𝓕 s ∙ ap (λ i. word (f i).re) (sym q)
      re k g b (no q) = written_other out (2 * j) _ _ (2 * k) (λ z. q (omega arith)) (λ z. omega arith) ∙ p.re_drawn k (omega arith) b

      im : (k : ℕ) → j ≤ k → k < n → Dec (k ≡ j) → get_or (set (set out (2 * j) x.re.0) (2 * j + 1) x.im.0) (2 * k + 1) 0 ≡ word (f k).im
      im k g b (yes q) =
          ap (λ i. get_or (set (set out (2 * j) x.re.0) (2 * j + 1) x.im.0) (2 * i + 1) 0) q
          ∙ written_second out (2 * j) _ _ (omega (arith, p.size)) ∙ im_word 𝓕 s ∙ ap (λ i. word (f i).im) (sym q)
      im k g b (no q) = written_other out (2 * j) _ _ (2 * k + 1) (λ z. omega arith) (λ z. q (omega arith)) ∙ p.im_drawn k (omega arith) b

  pub draw_end : {left n : ℕ} {f : ℕ → Of Element} {old out : List ℕ} → (0 < left → ⊥) → length old ≡ 2 * n → DrawnFrom left n f old out → out ≡ pair_words 𝓕 (row n f)
  draw_end {left} {n} {f} {old} {out} h e p =
      by_pairs n out (pair_words 𝓕 (row n f)) (p.size ∙ e) (length_pair_words 𝓕 (row n f) ∙ ap (λ k. 2 * k) (length_row n f))
      (λ k l. p.re_drawn k (omega arith) l ∙ sym (get_or_re 𝓕 (row n f) k ∙ ap (λ (x : Of Element). word x.re) (get_or_row n f k (real K 𝟘) l)))
      (λ k l. p.im_drawn k (omega arith) l ∙ sym (get_or_im 𝓕 (row n f) k ∙ ap (λ (x : Of Element). word x.im) (get_or_row n f k (real K 𝟘) l)))

  -- its inverse is as it was: word j is below 2 (j + 1)
  module _ {t w old : List ℕ} (L : PairLinesLent 𝓕 t w old) (j : ℕ) {left : ℕ} {f : ℕ → Of Element} {out : List ℕ} (h : j + 1 ≡ left) (p : DrawnFrom left (length t) f old out) where
    inverse_kept : get_or out j 0 ≡ get_or old j 0
    inverse_kept = p.kept j (omega arith)

    pub place_lent : PairPlaceLent 𝓕 j t w out
    place_lent =
        let m = p.size in
        let l = p.within in
        let r = L.room in
        let still : get_or old j 0 < P =
        rw (get_or-take (length t) old j 0 (omega arith)) at (L.inverses.low j (omega (arith, length-take (length t) old))) in
        record { within = omega arith; there = omega arith; whole = L.whole; low = L.low; block = L.block; inverse = rw inverse_kept still }

    pub line_kept : (a : Of Element) → pair_lines 𝓕 (length t) a t w out j ≡ pair_lines 𝓕 (length t) a t w old j
    line_kept a = ap (λ s. pair_line 𝓕 a (el (get_or t j 0)) (el s) (pair_at 𝓕 w j) (pair_at 𝓕 w (length t + j))) inverse_kept
