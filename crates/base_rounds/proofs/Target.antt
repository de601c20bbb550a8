-- What an opening over base messages of 2^low words holds at the places of a round, of a block and of v. Assumes nothing.
use mathlib.Core.Path.{◌≡◌, sym, ap, ◌∙◌}
use mathlib.Core.List.{List}
use Prim.Native.Nat.{ℕ, suc, ◌+◌, ◌*◌, ◌-◌, ◌^◌, ◌<◌, ◌≤◌}
use native.Mathlib.Omega.{arith}
use lib.ListN.{length, drop, get_or}
use lib.Pow.{pow-add}
use lib.Seq.{get_or-take, get_or-drop}
use Rattle.algebra.specs.Numerals.{num}
use Rattle.algebra.specs.Words.{PrimeField}
use Rattle.algebra.specs.WordLists.{elements, to_words, length_elements, length_words_lem, get_or_words}
use Rattle.basefold.specs.Layout.{block_at, opening_size}
use Rattle.basefold.specs.Written.{opening}
use Rattle.basefold.specs.Descent.{legal_at, block_below, descend_encode}
use Rattle.basefold.specs.Rounds.{length_rounds, sent_is, carried_is}
use Rattle.foldable.specs.Code.{Code, encode, size, Legal}
use Rattle.foldable.specs.Encode.{length_encode}
use Rattle.multilinear.specs.Folding.{folded, folded_last}
use Rattle.multilinear.specs.Rounds.{h}
use Rattle.base_spread.specs.LentRows.{lent_rows}
use Rattle.base_rounds.specs.OpeningLaws.{length_opening}
use Rattle.base_rounds.specs.RowLaws.{rows_are, dim_is}
use Rattle.base_rounds.specs.RowOpening.{opening_rows, WriteInput}

module _ (𝓕 : PrimeField) where
  open 𝓕 use {field as F, words as W}
  open F use {ring as K}
  open K use {R as Element}
  open W use {val as word}

  module _ (d low k n : ℕ) (g t t' m z r : List ℕ) (a b : ℕ) (𝓦 : WriteInput 𝓕 d low k n g t t' m z r a b) where
    abbrev ms : List Element
    ms = elements 𝓕 m

    abbrev zs : List Element
    zs = elements 𝓕 z

    abbrev rs : List Element
    rs = elements 𝓕 r

    abbrev C : Code F
    C = lent_rows 𝓕 k n g t t'

    abbrev left : ℕ → List Element
    left i = folded K low ms zs rs i

    abbrev target : List ℕ
    target = opening_rows 𝓕 low k n g t t' m z r

    abbrev O : List Element
    O = opening F low C ms zs rs

    pub point_length : length (elements 𝓕 z) ≡ low + d
    point_length = length_elements 𝓕 z ∙ 𝓦.point

    pub challenges_length : length (elements 𝓕 r) ≡ d
    challenges_length = length_elements 𝓕 r ∙ 𝓦.challenges

    legal : Legal F (lent_rows 𝓕 k n g t t') (length (elements 𝓕 r))
    legal = rw challenges_length 𝓦.coding.legal

    -- the message has a word for each set of variables
    pub message_power : k * 2 ^ d ≡ 2 ^ (low + d)
    message_power = ap (λ x. x * 2 ^ d) (sym 𝓦.rows) ∙ sym (pow-add 2 low d)

    pub message_length : length (elements 𝓕 m) ≡ 2 ^ (low + length (elements 𝓕 r))
    message_length = length_elements 𝓕 m ∙ 𝓦.message ∙ message_power ∙ ap (λ i. 2 ^ (low + i)) (sym challenges_length)

    pub length_target : length target ≡ opening_size n low d
    length_target = length_words_lem 𝓕 _ ∙ length_opening F low C ms zs rs legal ∙ ap (λ e. opening_size n low e) challenges_length

    pub length_coded : (i : ℕ) → i ≤ d → (M : List Element) → length (to_words 𝓕 (encode F (lent_rows 𝓕 k n g t t') i M)) ≡ n * 2 ^ i
    length_coded i l M = length_words_lem 𝓕 _ ∙ length_encode F C i (legal_at F C (length rs) i (omega (arith, challenges_length)) legal) M

    pub target_round : (i j : ℕ) → i < d → j < 3 → get_or target (3 * (d - suc i) + j) 0 ≡ word (h K low (elements 𝓕 m) (elements 𝓕 z) (elements 𝓕 r) (suc i) (num K j))
    target_round i j l u =
        get_or_words 𝓕 O (3 * (d - suc i) + j)
        ∙ ap word (ap (λ e. get_or O (3 * (e - suc i) + j) K.𝟘) (sym challenges_length) ∙ sent_is F low ms zs rs C i j (omega (arith, challenges_length)) u)

    pub target_block : (i j : ℕ) → i < d → j < n * 2 ^ i → get_or target (block_at n low d i + j) 0 ≡ get_or (to_words 𝓕 (encode F (lent_rows 𝓕 k n g t t') i (left i))) j 0
    target_block i j l u =
        let e = length rs in
        let at = block_at n low e i in
        let back : e - (e - i) ≡ i = omega (arith, challenges_length) in
        get_or_words 𝓕 O (block_at n low d i + j)
        ∙ ap word
        (ap (λ x. get_or O (block_at n low x i + j) K.𝟘) (sym challenges_length)
        ∙ sym (get_or-drop at O j K.𝟘)
        ∙ sym (get_or-take (size F C i) (drop at O) j K.𝟘 u)
        ∙ ap (λ v. get_or v j K.𝟘)
        (block_below F low C ms zs rs legal (length_rounds F low ms zs rs e) i (omega (arith, challenges_length))
        ∙ descend_encode F low C ms zs rs legal (rows_are 𝓕 low 𝓦.coding 𝓦.rows) (message_length ∙ sym (dim_is 𝓕 low 𝓦.coding 𝓦.rows e)) (e - i) (omega arith)
        ∙ ap (λ x. encode F C x (left x)) back))
        ∙ sym (get_or_words 𝓕 _ j)

    pub target_final : (j : ℕ) → j < 2 ^ low → get_or target (3 * d + j) 0 ≡ get_or (to_words 𝓕 (left 0)) j 0
    target_final j l =
        let e = length rs in
        get_or_words 𝓕 O (3 * d + j)
        ∙ ap word
        (ap (λ x. get_or O (3 * x + j) K.𝟘) (sym challenges_length)
        ∙ sym (get_or-drop (3 * e) O j K.𝟘)
        ∙ sym (get_or-take (2 ^ low) (drop (3 * e) O) j K.𝟘 l)
        ∙ ap (λ v. get_or v j K.𝟘) (carried_is F low ms zs rs C ∙ sym (folded_last K low ms zs rs)))
        ∙ sym (get_or_words 𝓕 (left 0) j)
