-- One round: what its block is lent, and what it leaves. Assumes nothing.
use mathlib.Core.Path.{◌≡◌, sym, ap, ◌∙◌}
use mathlib.Core.List.{List}
use Prim.Native.Nat.{ℕ, suc, ◌+◌, ◌^◌, ◌<◌, ◌≤◌}
use native.Mathlib.Omega.{arith}
use lib.ListN.{length, take, get_or, length-take}
use Rattle.algebra.specs.Lists.{put}
use Rattle.algebra.specs.Words.{PrimeField}
use Rattle.algebra.specs.WordLists.{low_words, elements, to_words, elements_words, length_elements, length_words_lem}
use Rattle.basefold.specs.Descent.{legal_at}
use Rattle.basefold.specs.Layout.{round_at, block_at, opening_size}
use Rattle.lines.specs.Laws.{fold_words_lem}
use Rattle.foldable.specs.Code as code
use Rattle.foldable.specs.Fold.{fold_split}
use Rattle.job.specs.Limits.{block_size}
use Rattle.layout.specs.LayoutLaws.{round_within}
use Rattle.multilinear.specs.Folding.{fold_message}
use Rattle.parameters.specs.Lent.{diagonal}
use Rattle.residue.specs.declared.Residue.{Residue}
use Rattle.steps.specs.Steps.{left_of, sent_words}
use Rattle.steps.specs.StepLaws.{length_left_of}
use Rattle.base_spread.specs.LentRows.{lent_rows, codeword_rows}
use Rattle.base_spread.specs.LentRowLaws.{first_within, first_coding}
use Rattle.base_steps.specs.RowSteps.{TakeResult}
use Rattle.base_steps.specs.RowStepLaws.{front_is}
use Rattle.base_descend.specs.RowDescending.{block_above, folded_above, FoldBlockInput}
use Rattle.base_rounds.specs.RowLaws.{dim_is, round_at_lem}
use Rattle.base_rounds.specs.RowRounds.{Follows, BlockInput, RoundInput, RoundResult}
use Rattle.base_rounds.proofs.Agreement.{drop_put}

module _ (𝓕 : PrimeField) where
  open 𝓕 use {field as F, words as W}
  open F use {ring as K}
  open W use {el}

  -- the fold of the block above; the first row is lent for its length
  module _ (d low i k n : ℕ) (g t t' r o s : List ℕ) (𝓑 : BlockInput 𝓕 d low i k n g t t' r o s) where
    pub row_within : n ≤ length g
    row_within = first_within 𝓕 𝓑.encodes.coding.lent

    row_length : length (take n g) ≡ n
    row_length = length-take n g ∙ omega (arith, row_within)

    module _ (h : i + 1 < d) where
      below : suc i < d
      below = omega arith

      pub fold_input : FoldBlockInput 𝓕 d low i (take n g) t t' r o
      fold_input =
          record {
            level = below;
            deep = 𝓑.encodes.deep;
            wide = rw row_length 𝓑.encodes.wide;
            coding = first_coding 𝓕 𝓑.encodes.coding;
            challenge = 𝓑.challenge;
            challenges_low = 𝓑.challenges_low;
            size = 𝓑.encodes.size ∙ ap (λ b. opening_size b low d) (sym row_length);
            block = rw row_length (𝓑.follows below).block;
          }

      pub fold_given : (o' : List ℕ) → o' ≡ put (block_at (length (take n g)) low d i) (folded_above 𝓕 d low i (length (take n g)) t t' r o) o
          → o' ≡ put (block_at n low d i) (codeword_rows 𝓕 i k n g t t' (take (2 ^ (low + i)) s)) o
      fold_given o' e =
          e ∙ ap (λ b. put (block_at b low d i) (folded_above 𝓕 d low i b t t' r o) o) row_length ∙ ap (λ x. put (block_at n low d i) x o) (𝓑.follows below).folded

  module _ (d low i k n : ℕ) (w : Residue) (g t t' z r o s : List ℕ) (𝓡 : RoundInput 𝓕 d low i k n w g t t' z r o s) (v : Residue) (s' : List ℕ) (𝓣 : TakeResult 𝓕 low i w z r s v s') where
    abbrev a : ℕ
    a = get_or r i 0

    abbrev M : List F.ring.R
    M = elements 𝓕 (take (2 ^ suc (low + i)) s)

    abbrev C : code.Code F
    C = lent_rows 𝓕 k n g t t'

    front : take (2 ^ (low + i)) s' ≡ to_words 𝓕 (left_of 𝓕 (low + i) (get_or r i 0) s)
    front = front_is 𝓕 low i w z r s 𝓡.above v s' 𝓣

    -- by the law of folds, of any opening whose block above is the codeword of what was left
    follows : (o₁ : List ℕ) → suc i < d → block_above d low i n o₁ ≡ codeword_rows 𝓕 (suc i) k n g t t' (take (2 ^ suc (low + i)) s) → Follows 𝓕 d low i k n g t t' r o₁ s'
    follows o₁ h e =
        let 𝓛 = legal_at F C d (suc i) (omega arith) 𝓡.coding.legal in
        let up : suc (low + i) ≡ low + suc i = omega arith in
        let sized : length M ≡ code.dim F C (suc i) =
        length_elements 𝓕 _ ∙ length-take (2 ^ suc (low + i)) s ∙ omega (arith, 𝓡.above.room) ∙ ap (λ b. 2 ^ b) up ∙ sym (dim_is 𝓕 low 𝓡.coding 𝓡.rows (suc i)) in
        record {
          block = rw e (low_words 𝓕 _);
          folded =
              fold_words_lem 𝓕 C i (block_size n i) (diagonal n t i) (diagonal n t' i) (block_above d low i n o₁) a (λ _. C.T i) (λ _. C.T' i) (λ _. block_size n i)
              ∙ ap (λ b. to_words 𝓕 (code.fold F C i (el a) (elements 𝓕 b))) e
              ∙ ap (λ b. to_words 𝓕 (code.fold F C i (el a) b)) (elements_words 𝓕 (code.encode F C (suc i) M))
              ∙ ap (to_words 𝓕) (fold_split F C i 𝓛 (el a) M sized ∙ ap (λ b. code.encode F C i (fold_message K b (el a) M)) (dim_is 𝓕 low 𝓡.coding 𝓡.rows i))
              ∙ sym (ap (λ x. to_words 𝓕 (code.encode F C i x)) (ap (elements 𝓕) front ∙ elements_words 𝓕 (left_of 𝓕 (low + i) a s)));
        }

    pub block_input : (o₁ : List ℕ) → o₁ ≡ put (round_at (low + d) (suc (low + i))) (sent_words 𝓕 (low + i) w z s) o → length o₁ ≡ length o → BlockInput 𝓕 d low i k n g t t' r o₁ s'
    block_input o₁ e l =
        record {
          encodes = record {
            level = 𝓡.level;
            deep = 𝓡.deep;
            wide = 𝓡.wide;
            rows = 𝓡.rows;
            coding = 𝓡.coding;
            size = l ∙ 𝓡.size;
            room = omega (arith, ap length front ∙ length_left_of 𝓕 (low + i) a s 𝓡.above, length-take (2 ^ (low + i)) s');
            left_low = rw front (low_words 𝓕 _);
          };
          challenge = omega (arith, 𝓡.challenges, 𝓡.level);
          challenges_low = 𝓡.challenges_low;
          follows = λ h. follows o₁ h (same ∙ 𝓡.upper h);
        }
      where
        same : block_above d low i n o₁ ≡ block_above d low i n o
        same =
            let xs = sent_words 𝓕 (low + i) w z s in
            let three : length xs ≡ 3 = length_words_lem 𝓕 _ in
            let in-front = round_within d i 𝓡.level in
            ap (λ x. block_above d low i n x) (e ∙ ap (λ b. put b xs o) (round_at_lem d low i 𝓡.level))
            ∙ ap (take (block_size n (suc i))) (drop_put (round_at d (suc i)) xs o (omega (arith, 𝓡.size)) (block_at n low d (suc i)) (omega arith))

    pub round_result : (o₁ o' : List ℕ) → o₁ ≡ put (round_at (low + d) (suc (low + i))) (sent_words 𝓕 (low + i) w z s) o
        → o' ≡ put (block_at n low d i) (codeword_rows 𝓕 i k n g t t' (take (2 ^ (low + i)) s')) o₁ → RoundResult 𝓕 d low i k n w g t t' z r o s v o' s'
    round_result o₁ o' p q =
        record {
          taken = 𝓣;
          opened = q ∙ ap (put (block_at n low d i) (codeword_rows 𝓕 i k n g t t' (take (2 ^ (low + i)) s'))) (p ∙ ap (λ b. put b (sent_words 𝓕 (low + i) w z s) o) (round_at_lem d low i 𝓡.level));
        }
