-- What is filled by rule is refused by no job: its lengths, its words, its base row and its diagonals pass the tests for 3, 4, 5 and 6. Assumes nothing.
use Rattle.std.specs.Prelude.{◌≡◌, true, not, List, [], ◌∷◌, ◌++◌, map, eqb}
use Rattle.std.proofs.Math.Path.{refl, sym, ap, ap₂}
use Rattle.std.proofs.Common.{◌∙◌, mul-one, one-mul}
use Rattle.std.proofs.Math.Bool.{◌&&◌}
use Prim.Native.Nat.{ℕ, zero, suc, ◌+◌, ◌^◌, ◌<◌, ◌≤◌}
use native.Mathlib.Omega.{arith}
use borrow.Author.Tests.{eq-eqb, ne_eqb}
use Rattle.std.proofs.Math.ListN.{length, length-replicate}
use Rattle.algebra.specs.Fields.{F₂}
use Rattle.algebra.specs.Half.{two}
use Rattle.algebra.specs.Lists.{Differ}
use Rattle.algebra.specs.Tests.{all, all₂, and_assoc}
use Rattle.algebra.specs.Words.{W₂, 𝔽₂}
use Rattle.algebra.specs.WordLaws.{same_word}
use Rattle.algebra.specs.WordLists.{Low, low_none, low_cons, to_words}
use Rattle.roots.specs.RootCode.{powers}
use Rattle.roots.specs.ReedSolomon.{legal_roots, table_roots}
use Rattle.roots.specs.SecondField.{root₂, table₂}
use Rattle.job.specs.Outcome.{done, ◌⨾◌}
use Rattle.job.specs.Limits.{max_depth, max_rate, block_size, diagonals_size}
use Rattle.job.specs.Sizes.{base_size}
use Rattle.residue.specs.Elements.{P, negative}
use Rattle.words.specs.Scans.{none_zero, all_differ}
use Rattle.words.specs.ScanLaws.{below_all}
use Rattle.places.specs.Inputs.{no_zero, no_equal}
use Rattle.parameters.specs.Parameters.{row_words}
use Rattle.base_parameters.specs.Parameters.{row_lengths, legal_rows}
use Rattle.base_parameters.specs.ParameterLaws.{base_of_one}
use Rattle.root_rows.specs.Rule.{ones_words, level_words, first_words, negative_words, ByRule}
use Rattle.root_rows.specs.RuleLaws.{log_most, length_first, low_first, length_negatives}

low_ones : (n : ℕ) → Low (P 𝔽₂) (ones_words n)
low_ones zero = low_none (P 𝔽₂)
low_ones (suc n) = low_cons (omega arith) (low_ones n)

low_negatives : (t : List ℕ) → Low (P 𝔽₂) (negative_words t)
unfolding negative_words
low_negatives [] = low_none (P 𝔽₂)
low_negatives (w ∷ t) = low_cons (W₂.val_lt _) (low_negatives t)

no_zero_lem : (n : ℕ) → none_zero (ones_words n) ≡ true
unfolding all
no_zero_lem zero = refl
no_zero_lem (suc n) = no_zero_lem n

-- elements that are not their own negatives have words that are not
differ_negatives : (xs : List F₂.ring.R) → Differ xs (map F₂.ring.neg xs) → all_differ (to_words 𝔽₂ xs) (negative_words (to_words 𝔽₂ xs)) ≡ true
unfolding all₂ to_words negative_words
differ_negatives [] h = refl
differ_negatives (x ∷ xs) h = ap₂ (λ a b. not a && b) (ne_eqb _ _ (λ e. h.0 (same e))) (differ_negatives xs h.1)
  where
    same : W₂.val x ≡ W₂.val (F₂.ring.neg (W₂.el (W₂.val x))) → x ≡ F₂.ring.neg x
    same e = same_word 𝔽₂ e ∙ ap F₂.ring.neg (W₂.el_val x)

-- one list after another
differ_append : (xs ys : List ℕ) → all_differ (xs ++ ys) (negative_words (xs ++ ys)) ≡ (all_differ xs (negative_words xs) && all_differ ys (negative_words ys))
unfolding all₂ negative_words
differ_append [] ys = refl
differ_append (x ∷ xs) ys = ap (λ b. not (eqb x (negative 𝔽₂ x)) && b) (differ_append xs ys) ∙ sym (and_assoc (not (eqb x (negative 𝔽₂ x))) _ _)

module _ (d e : ℕ) (depth : d ≤ max_depth) (most : 2 ^ e ≤ max_rate) where
  differ_level : (i : ℕ) → i < d → all_differ (level_words e i) (negative_words (level_words e i)) ≡ true
  unfolding level_words
  differ_level i h =
      let 𝓛 = legal_roots F₂ (2 ^ e) (λ k. root₂ (e + k)) d (table_roots F₂ (two 𝔽₂) 27 root₂ table₂ e d (omega (arith, log_most e most))) in
      let next : e + i + 1 ≡ e + suc i = omega arith in
      differ_negatives (powers F₂.ring (root₂ (e + i + 1)) (block_size (2 ^ e) i)) (rw next (𝓛.apart i h))

  differ_first : (k : ℕ) → k ≤ d → all_differ (first_words e k) (negative_words (first_words e k)) ≡ true
  unfolding first_words all₂ negative_words
  differ_first zero h = refl
  differ_first (suc k) h = differ_append (first_words e k) (level_words e k) ∙ ap₂ ◌&&◌ (differ_first k (omega arith)) (differ_level k (omega arith))

  module _ (g t t' : List ℕ) (𝓡 : ByRule d e g t t') where
    pub lengths_rule : row_lengths d (2 ^ e) 1 (length g) (length t) (length t') ≡ true
    unfolding row_lengths
    lengths_rule =
        let base : 2 ^ e ≡ base_size (2 ^ e) 1 = sym (mul-one (2 ^ e)) in
        let long = length_first e d ∙ ap (λ n. diagonals_size n d) base in
        rw (
          eq-eqb _ _ (ap length 𝓡.row ∙ length-replicate (2 ^ e) 1 ∙ base ∙ sym (one-mul (base_size (2 ^ e) 1))),
          eq-eqb _ _ (ap length 𝓡.first ∙ long),
          eq-eqb _ _ (ap length 𝓡.second ∙ length_negatives (first_words e d) ∙ long),
        )

    pub words_rule : row_words 𝔽₂ g t t' ≡ true
    unfolding row_words
    words_rule =
        rw (
          below_all 𝔽₂ g (rw 𝓡.row (low_ones (2 ^ e))),
          below_all 𝔽₂ t (rw 𝓡.first (low_first e d)),
          below_all 𝔽₂ t' (rw 𝓡.second (low_negatives (first_words e d))),
        )

    pub legal_filled : legal_rows 𝔽₂ 1 (base_size (2 ^ e) 1) g t t' ≡ done tt
    legal_filled = ap (λ o. o ⨾ no_equal t t') (base_of_one 𝔽₂ 1 (base_size (2 ^ e) 1) g refl) ∙ five_six
      where
        five_six : no_zero g ⨾ no_equal t t' ≡ done tt
        five_six = rw (𝓡.row, 𝓡.first, 𝓡.second, no_zero_lem (2 ^ e), differ_first d (omega arith))
