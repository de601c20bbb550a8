-- The rounds of an opening over base messages of 2^low words: what is known before each of them, and after the last. Assumes nothing.
use mathlib.Core.Path.{◌≡◌, refl, sym, ap, ap₂, ◌∙◌}
use mathlib.Core.Logic.{⊎_elim}
use mathlib.Core.List.{List, []}
use Prim.Native.Nat.{ℕ, zero, suc, ◌+◌, ◌*◌, ◌-◌, ◌^◌, ◌<◌, ◌≤◌}
use native.Mathlib.Nat.{mul-zero}
use native.Mathlib.Omega.{arith}
use lib.ListN.{length, take, drop, get_or, length-append, length-take, length-drop, drop_of_length-le}
use lib.Pow.{pow_mono}
use lib.Seq.{get_or-take, get_or-drop, ext_get_or}
use Rattle.algebra.specs.Lists.{put}
use Rattle.algebra.specs.Numerals.{num}
use Rattle.algebra.specs.Order.{lt_or_ge}
use Rattle.algebra.specs.Words.{PrimeField}
use Rattle.algebra.specs.WordLists.{low_words, elements, to_words, elements_words, words_elements, elements_take, get_or_elements, length_words_lem, get_or_words}
use Rattle.basefold.specs.Layout.{block_at, final_at, opening_size}
use Rattle.foldable.specs.Code.{encode}
use Rattle.layout.specs.LayoutLaws.{block_end, block_within}
use Rattle.multilinear.specs.Corners.{eq, eq_nil}
use Rattle.multilinear.specs.Folding.{fold_message, folded, folded_first, folded_step, eq_step}
use Rattle.multilinear.specs.Rounds.{h}
use Rattle.polynomial.specs.Eq.{factor}
use Rattle.residue.specs.declared.Residue.{Residue}
use Rattle.residue.specs.Elements.{elem}
use Rattle.residue.specs.ResidueLaws.{is_low, stands}
use Rattle.steps.specs.Steps.{values, round_of, left_of, sent_words}
use Rattle.steps.specs.StepLaws.{length_left_of}
use Rattle.base_spread.specs.LentRows.{lent_rows, codeword_rows}
use Rattle.base_steps.specs.RowStepLaws.{front_is, h_left}
use Rattle.base_descend.specs.RowDescending.{block_above}
use Rattle.base_rounds.specs.RowRounds.{RoundInput, RoundResult}
use Rattle.base_rounds.specs.RowOpening.{opening_rows, WriteInput}
use Rattle.base_rounds.proofs.Agreement.{Agrees, agrees_none, agrees_below, agrees_above, agrees_more, length_put}
use Rattle.base_rounds.proofs.Target.{point_length, challenges_length, message_power, message_length, length_target, length_coded, target_round, target_block, target_final}

module _ (𝓕 : PrimeField) where
  infixl 70 ◌⊠◌
  open 𝓕 use {field as F, words as W}
  open F use {ring as K}
  open K use {R as Element, ◌*◌ as ◌⊠◌}
  open W use {el, val as word}

  -- before the round from level i down: the weight, what is left, and the parts of the opening that are written
  pub record BeforeRound (d low k n : ℕ) (g t t' m z r : List ℕ) (i : ℕ) (w : Residue) (o s : List ℕ) : Type 0 where
    pub level : i ≤ d
    pub weight : w.0 ≡ word (eq K (drop (low + i) (elements 𝓕 z)) (drop i (elements 𝓕 r)))
    pub message : take (2 ^ (low + i)) s ≡ to_words 𝓕 (folded K low (elements 𝓕 m) (elements 𝓕 z) (elements 𝓕 r) i)
    pub room : length s ≡ 2 * 2 ^ (low + d)
    pub size : length o ≡ opening_size n low d
    pub rounds : Agrees 0 (3 * (d - i)) (opening_rows 𝓕 low k n g t t' m z r) o
    pub blocks : Agrees (3 * d + 2 ^ low) (3 * d + 2 ^ low + n * (2 ^ d - 2 ^ i)) (opening_rows 𝓕 low k n g t t' m z r) o

  values_at : (f : Element → Element) (j : ℕ) → j < 3 → get_or (values 𝓕 f) j K.𝟘 ≡ f (num K j)
  values_at f zero l = refl
  values_at f (suc zero) l = refl
  values_at f (suc (suc zero)) l = refl
  values_at f (suc (suc (suc j))) l = absurd (omega arith)

  module _ (d low k n : ℕ) (g t t' m z r : List ℕ) (a b : ℕ) (𝓦 : WriteInput 𝓕 d low k n g t t' m z r a b) where
    abbrev ms : List Element
    ms = elements 𝓕 m

    abbrev zs : List Element
    zs = elements 𝓕 z

    abbrev rs : List Element
    rs = elements 𝓕 r

    abbrev left : ℕ → List Element
    left i = folded K low ms zs rs i

    abbrev target : List ℕ
    target = opening_rows 𝓕 low k n g t t' m z r

    lz : length (elements 𝓕 z) ≡ low + d
    lz = point_length 𝓕 d low k n g t t' m z r a b 𝓦

    lr : length (elements 𝓕 r) ≡ d
    lr = challenges_length 𝓕 d low k n g t t' m z r a b 𝓦

    -- before the first round
    pub before_first : (w : Residue) → w.0 ≡ 1 → (o s : List ℕ) → length o ≡ a → length s ≡ b → take (k * 2 ^ d) s ≡ m → BeforeRound d low k n g t t' m z r d w o s
    before_first w one o s lo ls e =
        let none : 2 ^ d - 2 ^ d ≡ 0 = omega arith in
        let power = message_power 𝓕 d low k n g t t' m z r a b 𝓦 in
        record {
          level = omega arith;
          weight = one ∙ sym (ap word (ap (λ v. eq K v (drop d rs)) (drop_of_length-le zs {i = low + d} (omega (arith, lz))) ∙ eq_nil K (drop d rs) ∙ sym 𝓕.words.el_one) ∙ 𝓕.words.val_el 1 (omega (arith, 𝓕.above)));
          message =
              ap (λ x. take x s) (sym power) ∙ e ∙ sym (words_elements 𝓕 m 𝓦.message_low)
              ∙ ap (to_words 𝓕) (sym (folded_first K low ms zs rs (message_length 𝓕 d low k n g t t' m z r a b 𝓦)) ∙ ap left lr);
          room = ls ∙ 𝓦.room ∙ ap (λ x. 2 * x) power;
          size = lo ∙ 𝓦.opens;
          rounds = agrees_none 0 (3 * (d - d)) target o (omega arith);
          blocks = agrees_none (3 * d + 2 ^ low) (3 * d + 2 ^ low + n * (2 ^ d - 2 ^ d)) target o (omega (arith, ap (λ x. n * x) none ∙ mul-zero n));
        }

    pub room_kept : (i : ℕ) (w : Residue) (o s : List ℕ) → BeforeRound d low k n g t t' m z r i w o s → length s ≡ b
    room_kept i w o s 𝓗 = 𝓗.room ∙ sym (𝓦.room ∙ ap (λ x. 2 * x) (message_power 𝓕 d low k n g t t' m z r a b 𝓦))

    -- from level j = i + 1 to level i
    module _ (i j : ℕ) (w : Residue) (q : j ≡ suc i) (o s : List ℕ) (𝓗 : BeforeRound d low k n g t t' m z r j w o s) where
      𝓖 : BeforeRound d low k n g t t' m z r (suc i) w o s
      𝓖 = rw q at 𝓗

      below : i < d
      below = 𝓖.level

      next : low + suc i ≡ suc (low + i)
      next = omega arith

      up : 2 ^ suc (low + i) ≤ 2 * 2 ^ (low + d)
      up = let e : 2 ^ suc (low + i) ≤ 2 ^ (low + d) = pow_mono (omega (arith, below)) in omega arith

      above_words : take (2 ^ suc (low + i)) s ≡ to_words 𝓕 (left (suc i))
      above_words = ap (λ e. take (2 ^ e) s) (sym next) ∙ 𝓖.message

      above_is : elements 𝓕 (take (2 ^ suc (low + i)) s) ≡ left (suc i)
      above_is = ap (elements 𝓕) above_words ∙ elements_words 𝓕 (left (suc i))

      -- the block above, where it lies in the opening, is the codeword of what is left
      upper : suc i < d → block_above d low i n o ≡ codeword_rows 𝓕 (suc i) k n g t t' (take (2 ^ suc (low + i)) s)
      upper l =
          let p = block_at n low d (suc i) in
          let c = n * 2 ^ suc i in
          let long : length (take c (drop p o)) ≡ c = simp (length-take, length-drop) (omega (arith, block_within n low d (suc i) l, 𝓖.size)) in
          ext_get_or 0 (take c (drop p o)) (to_words 𝓕 (encode F (lent_rows 𝓕 k n g t t') (suc i) (left (suc i))))
          (long ∙ sym (length_coded 𝓕 d low k n g t t' m z r a b 𝓦 (suc i) (omega arith) (left (suc i))))
          (λ x h. get_or-take c (drop p o) x 0 (omega (arith, long)) ∙ get_or-drop p o x 0
          ∙ 𝓖.blocks.at (p + x) (omega arith) (omega (arith, long, block_end n low d (suc i) l))
          ∙ target_block 𝓕 d low k n g t t' m z r a b 𝓦 (suc i) x l (omega (arith, long)))
          ∙ ap (λ M. to_words 𝓕 (encode F (lent_rows 𝓕 k n g t t') (suc i) M)) (sym above_is)

      pub round_input : RoundInput 𝓕 d low i k n w g t t' z r o s
      round_input =
          record {
            level = below;
            deep = 𝓦.deep;
            wide = 𝓦.wide;
            rows = 𝓦.rows;
            coding = 𝓦.coding;
            weight = is_low 𝓕 _ 𝓖.weight;
            point = 𝓦.point;
            challenges = 𝓦.challenges;
            point_low = 𝓦.point_low;
            challenges_low = 𝓦.challenges_low;
            size = 𝓖.size;
            above = record { room = omega (arith, up, 𝓖.room); low = rw above_words (low_words 𝓕 (left (suc i))) };
            upper = upper;
          }

      left_is : left_of 𝓕 (low + i) (get_or r i 0) s ≡ left i
      left_is =
          ap₂ (λ x M. fold_message K (2 ^ (low + i)) x M) (sym (get_or_elements 𝓕 r i)) above_is
          ∙ sym (folded_step K low ms zs rs i (omega (arith, lr, below)))

      weight_is : elem 𝓕 w ≡ eq K (drop (suc (low + i)) zs) (drop (suc i) rs)
      weight_is = stands 𝓕 _ 𝓖.weight ∙ ap (λ e. eq K (drop e zs) (drop (suc i) rs)) next

      sent_at : (j : ℕ) → j < 3 → get_or (sent_words 𝓕 (low + i) w z s) j 0 ≡ get_or target (3 * (d - suc i) + j) 0
      sent_at j l =
          let X = num K j in
          let ly : length (take (suc (low + i)) zs) ≡ suc (low + i) = length-take (suc (low + i)) zs ∙ omega (arith, lz, below) in
          get_or_words 𝓕 _ j
          ∙ ap word
          (values_at (round_of 𝓕 (elem 𝓕 w) (elements 𝓕 (take (2 ^ suc (low + i)) s)) (elements 𝓕 (take (suc (low + i)) z))) j l
          ∙ (λ x. round_of 𝓕 (weight_is x) (above_is x) (elements_take 𝓕 (suc (low + i)) z x) X)
          ∙ ap (λ e. eq K (drop (suc (low + i)) zs) (drop (suc i) rs) ⊠ h K 0 (left (suc i)) (take (suc (low + i)) zs) [] e X) ly
          ∙ h_left K low ms zs rs i X (omega (arith, lz, below)))
          ∙ sym (target_round 𝓕 d low k n g t t' m z r a b 𝓦 i j below l)

      weight_next : elem 𝓕 w ⊠ factor 𝓕 (el (get_or z (low + i) 0)) (el (get_or r i 0)) ≡ eq K (drop (low + i) zs) (drop i rs)
      weight_next =
          let step : eq K (drop (low + i) zs) (drop i rs) ≡ factor 𝓕 (get_or zs (low + i) K.𝟘) (get_or rs i K.𝟘) ⊠ eq K (drop (suc (low + i)) zs) (drop (suc i) rs) =
          eq_step K low ms zs rs i (omega (arith, lr, below)) (omega (arith, lz, below)) in
          (λ x. weight_is x ⊠ factor 𝓕 (sym (get_or_elements 𝓕 z (low + i)) x) (sym (get_or_elements 𝓕 r i) x)) ∙ K.mul_comm _ _ ∙ sym step

      module _ (v : Residue) (o' s' : List ℕ) (𝓡 : RoundResult 𝓕 d low i k n w g t t' z r o s v o' s') where
        front : take (2 ^ (low + i)) s' ≡ to_words 𝓕 (left i)
        front = front_is 𝓕 low i w z r s round_input.above v s' 𝓡.taken ∙ ap (to_words 𝓕) left_is

        abbrev block : List ℕ
        block = codeword_rows 𝓕 i k n g t t' (take (2 ^ (low + i)) s')

        block_is : block ≡ to_words 𝓕 (encode F (lent_rows 𝓕 k n g t t') i (left i))
        block_is = ap (λ M. to_words 𝓕 (encode F (lent_rows 𝓕 k n g t t') i M)) (ap (elements 𝓕) front ∙ elements_words 𝓕 (left i))

        length_block : length block ≡ n * 2 ^ i
        length_block = length_coded 𝓕 d low k n g t t' m z r a b 𝓦 i (omega (arith, below)) _

        less : 2 ^ (low + i) ≤ 2 ^ (low + d)
        less = pow_mono (omega (arith, below))

        pub before_next : BeforeRound d low k n g t t' m z r i v o' s'
        before_next =
            let p = 3 * (d - suc i) in
            let xs = sent_words 𝓕 (low + i) w z s in
            let o₁ = put p xs o in
            let c = block_at n low d i in
            let three : length xs ≡ 3 = length_words_lem 𝓕 _ in
            let l = below in
            let fits : p + length xs ≤ length o = omega (arith, 𝓖.size) in
            let same : length o₁ ≡ length o = length_put p xs o fits in
            let fits' : c + length block ≤ length o₁ = omega (arith, block_within n low d i below, length_block, 𝓖.size) in
            record {
              level = omega arith;
              weight = 𝓡.taken.weight ∙ ap word weight_next;
              message = front;
              room =
                  ap length 𝓡.taken.left ∙ length-append (to_words 𝓕 (left_of 𝓕 (low + i) (get_or r i 0) s)) (drop (2 ^ (low + i)) s)
                  ∙ omega (arith, length_left_of 𝓕 (low + i) (get_or r i 0) s round_input.above, length-drop (2 ^ (low + i)) s, 𝓖.room, less);
              size = ap length 𝓡.opened ∙ length_put c block o₁ fits' ∙ same ∙ 𝓖.size;
              rounds =
                  rw 𝓡.opened
                  (agrees_below c block o₁ fits' (omega arith)
                  (agrees_more p xs o fits (3 * (d - i)) (omega arith) 𝓖.rounds (λ j q. sent_at j (omega arith))));
              blocks =
                  rw 𝓡.opened
                  (agrees_more c block o₁ fits' (3 * d + 2 ^ low + n * (2 ^ d - 2 ^ i)) (ap (λ e. c + e) length_block ∙ block_end n low d i below)
                  (agrees_above p xs o fits (omega arith) 𝓖.blocks)
                  (λ j q. ap (λ M. get_or M j 0) block_is ∙ sym (target_block 𝓕 d low k n g t t' m z r a b 𝓦 i j below (omega (arith, length_block)))));
            }

    -- after the last round
    pub after_last : (i : ℕ) (w : Residue) → i ≡ 0 → (o s : List ℕ) → BeforeRound d low k n g t t' m z r i w o s → put (final_at d) (take k s) o ≡ target
    after_last i w none o s 𝓗 =
        let xs = take k s in
        let lt = length_target 𝓕 d low k n g t t' m z r a b 𝓦 in
        let front = agrees_more (3 * d) xs o fits (3 * d + 2 ^ low) (ap (λ e. 3 * d + e) long) before same in
        let behind = agrees_above (3 * d) xs o fits (omega (arith, long)) 𝓖.blocks in
        ext_get_or 0 (put (3 * d) xs o) target (length_put (3 * d) xs o fits ∙ 𝓖.size ∙ sym lt)
        (λ j l. ⊎_elim (λ c. front.at j (omega arith) c) (λ c. behind.at j c (omega (arith, length_put (3 * d) xs o fits, 𝓖.size))) (lt_or_ge j (3 * d + 2 ^ low)))
      where
        𝓖 : BeforeRound d low k n g t t' m z r 0 w o s
        𝓖 = rw none at 𝓗

        v_is : take k s ≡ to_words 𝓕 (folded K low (elements 𝓕 m) (elements 𝓕 z) (elements 𝓕 r) 0)
        v_is = let e : low ≡ low + 0 = omega arith in ap (λ x. take x s) (sym 𝓦.rows ∙ ap (λ x. 2 ^ x) e) ∙ 𝓖.message

        long : length (take k s) ≡ 2 ^ low
        long = let less : 2 ^ low ≤ 2 ^ (low + d) = pow_mono (omega arith) in length-take k s ∙ omega (arith, 𝓖.room, 𝓦.rows)

        fits : 3 * d + length (take k s) ≤ length o
        fits = omega (arith, long, 𝓖.size)

        before : Agrees 0 (3 * d) (opening_rows 𝓕 low k n g t t' m z r) o
        before = record { at = λ x y l. 𝓖.rounds.at x y (omega arith) }

        same : (j : ℕ) → j < length (take k s) → get_or (take k s) j 0 ≡ get_or (opening_rows 𝓕 low k n g t t' m z r) (3 * d + j) 0
        same j l = ap (λ x. get_or x j 0) v_is ∙ sym (target_final 𝓕 d low k n g t t' m z r a b 𝓦 j (omega (arith, long)))
