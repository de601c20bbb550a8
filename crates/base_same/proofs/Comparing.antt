-- The columns of a codeword of k base rows, and a block compared with them. Assumes nothing.
use mathlib.Core.Path.{◌≡◌, refl, sym, ap, ap₂, ◌∙◌}
use mathlib.Core.Bool.{Bool, true, false, not}
use mathlib.Core.List.{List, [], ◌∷◌, ◌++◌, map, flat_map, append_assoc}
use Prim.Native.Nat.{ℕ, zero, suc, ◌+◌, ◌*◌, ◌-◌, ◌^◌, ◌<◌, ◌≤◌}
use native.Mathlib.Nat.{mul-one, zero-mul, suc-mul, mul-le-mul, mul-le-mul_right}
use native.Mathlib.Omega.{arith}
use lib.Dec.{eqb}
use lib.ListN.{length, take, drop, get_or, length-take, length-drop, length-map}
use lib.Seq.{paste, take_at, drop_at, take_all}
use borrow.Author.Count.{below_more}
use borrow.Rule.Slice.PartMut.{put_mid}
use Rattle.algebra.specs.Flags.{passes, fails}
use Rattle.algebra.specs.Lists.{row, length_row, row_ext, map_row}
use Rattle.algebra.specs.Matrix.{times}
use Rattle.algebra.specs.Words.{PrimeField}
use Rattle.algebra.specs.WordLists.{Low, low_words, elements, to_words, length_elements, length_words_lem, get_or_elements, get_or_words, elements_words, elements_take, elements_drop}
use Rattle.algebra.specs.Tests.{all_same, is_same}
use Rattle.foldable.specs.Code.{Code, encode, generator, Legal}
use Rattle.foldable.specs.Encode.{length_encode}
use Rattle.foldable.specs.Every.{every, columns_all, columns_one}
use Rattle.foldable.specs.Lift.{lift}
use Rattle.foldable.specs.OneColumn.{column_code, legal_column, one_column_encode}
use Rattle.blocks.specs.Base.{base_messages, base_blocks}
use Rattle.blocks.specs.Lifted.{lift_base}
use Rattle.job.specs.Limits.{max_message, block_size}
use Rattle.job.specs.LimitLaws.{power_most}
use Rattle.parameters.specs.Lent.{diagonal}
use Rattle.columns.specs.Steps.{lent_column, ColumnLent}
use Rattle.columns.proofs.Comparing.{words_every}
use Rattle.cofactor.specs.Rows.{rows}
use Rattle.job.specs.SizeLaws.{size_least, size_most}
use Rattle.cofactor.specs.RowLaws.{rows_count}
use Rattle.base_spread.specs.LentRows.{lent_rows, codeword_rows, RowCoding}
use Rattle.base_spread.specs.LentRowLaws.{lift_same, first_within, first_coding}
use Rattle.base_block.specs.Blocks.{block_of}
use Rattle.base_halves_step.proofs.Spreading.{turn_within}
use Rattle.base_same.specs.Steps.{column_words, BaseLent, MessageLent, ColumnsInput}

-- lists of one element, one behind the other
flat_singles : {A B : Type 0} (f : A → List B) (q : ℕ) (h : ℕ → A) (v : ℕ → B) → ((i : ℕ) → i < q → f (h i) ≡ v i ∷ []) → flat_map f (row q h) ≡ row q v
unfolding row flat_map
flat_singles f zero h v e = refl
flat_singles f (suc q) h v e = ap₂ ◌++◌ (e 0 (omega arith)) (flat_singles f q (λ i. h (suc i)) (λ i. v (suc i)) (λ i l. e (suc i) (omega arith)))

module _ (𝓕 : PrimeField) where
  open 𝓕 use {modulus as P, field as F, words as W}
  open F use {ring as K}
  open K use {R as Element, 𝟘}
  open W use {el, val as word}

  -- words of base blocks are below the modulus
  low_column : (k n q j : ℕ) (g m : List ℕ) → Low P (column_words 𝓕 k n q j g m)
  unfolding block_of to_words
  low_column k n q j g m =
      let part : ℕ → List ℕ = λ i. take k (drop (k * i) m) in
      let u : ℕ → List Element = λ i. times K n (elements 𝓕 (part i)) (rows 𝓕 (length (part i)) n g) in
      let v : ℕ → Element = λ i. get_or (u i) j 𝟘 in
      let same : column_words 𝓕 k n q j g m ≡ to_words 𝓕 (row q v) = row_ext q _ (λ i. word (v i)) (λ i h. get_or_words 𝓕 (u i) j) ∙ sym (map_row word q v) in
      rw same (low_words 𝓕 (row q v))

  -- column j of the codeword of a message m
  module _ (d k n j : ℕ) (g t t' m : List ℕ) (𝓒 : RowCoding 𝓕 d k n g t t') (within : j < n) (lm : length m ≡ k * 2 ^ d) where
    abbrev C : Code F
    C = lent_rows 𝓕 k n g t t'

    abbrev Cj : Code F
    Cj = column_code F C j

    abbrev G : List (List Element)
    G = rows 𝓕 k n g

    abbrev Gj : List (List Element)
    Gj = map (λ r. get_or r j 𝟘 ∷ []) G

    abbrev M : List Element
    M = elements 𝓕 m

    abbrev X : List ℕ
    X = column_words 𝓕 k n (2 ^ d) j g m

    many : length G ≡ k
    many = rows_count 𝓕 k n g 𝓒.lent.few (omega (arith, 𝓒.lent.long))

    count : length Gj ≡ k
    count = length-map G _ ∙ many

    length_M : length M ≡ k * 2 ^ d
    length_M = length_elements 𝓕 m ∙ lm

    legal₀ : Legal F C 0
    legal₀ = record { base = 𝓒.legal.base; first = λ i h. absurd (omega arith); second = λ i h. absurd (omega arith); apart = λ i h. absurd (omega arith) }

    -- word j of one base block
    one : (v : List Element) → length v ≡ k → times K 1 v Gj ≡ get_or (times K n v G) j 𝟘 ∷ []
    unfolding row encode generator
    one v e =
        let x : get_or (times K (n * 1) v G) (j + 0 * n) 𝟘 ∷ [] ≡ times K 1 v Gj = one_column_encode F C j within 0 legal₀ v (e ∙ sym many ∙ sym (mul-one (length G))) in
        let z : j ≡ j + 0 * n = omega (arith, zero-mul n) in
        sym (ap₂ (λ a b. get_or (times K a v G) b 𝟘 ∷ []) (sym (mul-one n)) z ∙ x)

    word_is : (i : ℕ) → i < 2 ^ d → el (get_or (block_of 𝓕 n g (take k (drop (k * i) m))) j 0) ≡ get_or (times K n (take k (drop (k * i) M)) G) j 𝟘
    unfolding block_of
    word_is i l =
        let part = take k (drop (k * i) m) in
        let sized : length part ≡ k = length-take k (drop (k * i) m) ∙ omega (arith, length-drop (k * i) m, turn_within k i (2 ^ d) l) in
        sym (get_or_elements 𝓕 (block_of 𝓕 n g part) j)
        ∙ ap (λ u. get_or u j 𝟘) (elements_words 𝓕 _)
        ∙ ap₂ (λ v c. get_or (times K n v (rows 𝓕 c n g)) j 𝟘) (elements_take 𝓕 k (drop (k * i) m) ∙ ap (take k) (elements_drop 𝓕 (k * i) m)) sized

    blocks_are : elements 𝓕 X ≡ base_blocks F Cj (2 ^ d) M
    unfolding base_blocks base_messages elements
    blocks_are =
        map_row el (2 ^ d) _
        ∙ sym (flat_singles (λ v. times K 1 v Gj) (2 ^ d) (λ i. take (length Gj) (drop (length Gj * i) M)) (λ i. el (get_or (block_of 𝓕 n g (take k (drop (k * i) m))) j 0)) at)
      where
        at : (i : ℕ) → i < 2 ^ d → times K 1 (take (length Gj) (drop (length Gj * i) M)) Gj ≡ el (get_or (block_of 𝓕 n g (take k (drop (k * i) m))) j 0) ∷ []
        at i l =
            let sized : length (take k (drop (k * i) M)) ≡ k = length-take k (drop (k * i) M) ∙ omega (arith, length-drop (k * i) M, length_M, turn_within k i (2 ^ d) l) in
            ap (λ c. times K 1 (take c (drop (c * i) M)) Gj) count ∙ one (take k (drop (k * i) M)) sized ∙ ap (λ x. x ∷ []) (sym (word_is i l))

    row_length : length (take n g) ≡ n
    row_length = length-take n g ∙ omega (arith, first_within 𝓕 𝓒.lent)

    -- the levels above depend on the length of a row alone
    column_same : (v : List Element) → lift F (lent_column 𝓕 j (take n g) t t') d v ≡ lift F Cj d v
    column_same v =
        let level : (s : List ℕ) (i : ℕ) → every 𝟘 (length (elements 𝓕 (take n g))) j (2 ^ i) (elements 𝓕 (diagonal (length (take n g)) s i)) ≡ every 𝟘 n j (2 ^ i) (elements 𝓕 (diagonal n s i)) =
        λ s i. ap₂ (λ a b. every 𝟘 a j (2 ^ i) (elements 𝓕 (diagonal b s i))) (length_elements 𝓕 (take n g) ∙ row_length) row_length in
        lift_same F (lent_column 𝓕 j (take n g) t t') Cj refl (level t) (level t') d v

    column_is : to_words 𝓕 (lift F (lent_column 𝓕 j (take n g) t t') d (elements 𝓕 X)) ≡ every 0 n j (2 ^ d) (codeword_rows 𝓕 d k n g t t' m)
    column_is =
        ap (to_words 𝓕)
        (column_same (elements 𝓕 X)
        ∙ ap (lift F Cj d) blocks_are
        ∙ lift_base F Cj d (legal_column F C j within d 𝓒.legal) M (length_M ∙ ap (λ c. c * 2 ^ d) (sym count))
        ∙ sym (one_column_encode F C j within d 𝓒.legal M (length_M ∙ ap (λ c. c * 2 ^ d) (sym many))))
        ∙ words_every 𝓕 n j (2 ^ d) (encode F C d M)

  module _ (d k n j : ℕ) (g t t' b w : List ℕ) (𝓜 : MessageLent 𝓕 d k n g t t' b w) (within : j < n) (q : ℕ) (en : q ≡ 2 ^ d) where
    abbrev h : ℕ
    h = k * q

    abbrev column : List ℕ
    column = column_words 𝓕 k n q j g (take (k * q) w)

    h_is : k * q ≡ k * 2 ^ d
    h_is = ap (λ x. k * x) en

    -- all of it is small
    pub few : (q ≤ max_message) × (k * q ≤ 4 * max_message)
    few =
        let most : q ≤ max_message = rw en (power_most d 𝓜.depth) in
        (most, mul-le-mul (size_most 𝓜.coding.lent.size) most)

    -- a column has room behind the message
    pub room : k * q + q ≤ length w
    room =
        let more : suc k ≤ n = omega (arith, 𝓜.narrow, size_least 𝓜.coding.lent.size) in
        let all : suc k * 2 ^ d ≤ n * 2 ^ d = mul-le-mul_right (2 ^ d) more in
        omega (arith, 𝓜.work, suc-mul k (2 ^ d), h_is)

    pub base_lent : BaseLent 𝓕 k n q j g w
    base_lent = record { lent = 𝓜.coding.lent; message = rw h_is 𝓜.message; room = room; column = within }

    pub length_first : length (take n g) ≡ n
    length_first = length-take n g ∙ omega (arith, first_within 𝓕 𝓜.coding.lent)

    front : length (take h w) ≡ h
    front = length-take h w ∙ omega (arith, room)

    module _ (v : List ℕ) (lv : length v ≡ length w) (ev : v ≡ paste w h column q) where
      parts : v ≡ take h w ++ (column ++ drop (h + q) w)
      parts =
          ev ∙ ap (λ x. (take h w ++ x) ++ drop (h + q) w) (take_all q column (omega (arith, length_row q (λ i. get_or (block_of 𝓕 n g (take k (drop (k * i) (take h w)))) j 0))))
          ∙ append_assoc (take h w) column (drop (h + q) w)

      pub end_within : h + q ≤ length v
      end_within = omega (arith, room)

      abbrev part : List ℕ
      part = take (h + q - h) (drop h v)

      part_is : part ≡ column
      part_is =
          let e : h + q - h ≡ q = omega arith in
          ap₂ (λ a u. take a (drop h u)) e parts ∙ ap (take q) (drop_at (take h w) (column ++ drop (h + q) w) h front) ∙ take_at column (drop (h + q) w) q (length_row q _)

      pub lifting : ColumnLent 𝓕 d j (take n g) t t' part × (length b ≡ block_size (length (take n g)) d)
      lifting = (
        record {
          coding = first_coding 𝓕 𝓜.coding;
          depth = 𝓜.depth;
          wide = rw length_first 𝓜.wide;
          column = omega (arith, length_first);
          size = ap length part_is ∙ length_row q _ ∙ en;
          block = rw part_is (low_column k n q j g (take h w));
        },
        𝓜.size ∙ ap (λ c. c * 2 ^ d) (sym length_first),
      )

      message_length : length (take (k * 2 ^ d) w) ≡ k * 2 ^ d
      message_length = length-take (k * 2 ^ d) w ∙ omega (arith, room, h_is)

      pub judged_column : (r : Bool) → r ≡ all_same (to_words 𝓕 (lift F (lent_column 𝓕 j (take n g) t t') d (elements 𝓕 part))) (every 0 (length (take n g)) j (2 ^ d) b)
          → r ≡ all_same (every 0 n j (2 ^ d) (codeword_rows 𝓕 d k n g t t' (take (k * 2 ^ d) w))) (every 0 n j (2 ^ d) b)
      judged_column r e =
          e
          ∙ ap₂ all_same
          (ap (λ x. to_words 𝓕 (lift F (lent_column 𝓕 j (take n g) t t') d (elements 𝓕 x))) (part_is ∙ ap (λ x. column_words 𝓕 k n x j g (take (k * x) w)) en)
          ∙ column_is d k n j g t t' (take (k * 2 ^ d) w) 𝓜.coding within message_length)
          (ap (λ c. every 0 c j (2 ^ d) b) length_first)

      -- the message stays where it stands
      pub stays : (r : List ℕ) → take (k * 2 ^ d) (put_mid h (h + q - h) v r) ≡ take (k * 2 ^ d) w
      stays r =
          let l : length (take h v) ≡ h = length-take h v ∙ omega (arith, room) in
          ap (λ x. take x (put_mid h (h + q - h) v r)) (sym h_is) ∙ take_at (take h v) (r ++ drop (h + q - h) (drop h v)) h l
          ∙ ap (take h) parts ∙ take_at (take h w) (column ++ drop (h + q) w) h front
          ∙ ap (λ x. take x w) h_is

  -- the codeword of the message in front of w, and the columns that the block has of it
  module _ (d k n : ℕ) (g t t' b w : List ℕ) where
    abbrev coded : List ℕ
    coded = codeword_rows 𝓕 d k n g t t' (take (k * 2 ^ d) w)

    abbrev pub Agrees : ℕ → Type 0
    Agrees a = all_same (every 0 n a (2 ^ d) coded) (every 0 n a (2 ^ d) b) ≡ true

  module _ (d k n : ℕ) (g t t' b w : List ℕ) (𝓘 : ColumnsInput 𝓕 d k n g t t' b w) where
    length_coded : length (coded d k n g t t' b w) ≡ n * 2 ^ d
    length_coded = length_words_lem 𝓕 _ ∙ length_encode F (lent_rows 𝓕 k n g t t') d 𝓘.lent.coding.legal _

    pub message_lent : (v : List ℕ) → length v ≡ length w → take (k * 2 ^ d) v ≡ take (k * 2 ^ d) w → MessageLent 𝓕 d k n g t t' b v
    message_lent v l e =
        let 𝓛 = 𝓘.lent in
        record {
          coding = 𝓛.coding;
          depth = 𝓛.depth;
          narrow = 𝓛.narrow;
          wide = 𝓛.wide;
          size = 𝓛.size;
          work = l ∙ 𝓛.work;
          message = rw e 𝓛.message;
        }

    pub agree_none : (a : ℕ) → a < k → Agrees d k n g t t' b w a
    agree_none a h = is_same _ _ (𝓘.first a h)

    pub agree_end : (j : ℕ) → n ≤ j → ((a : ℕ) → a < j → Agrees d k n g t t' b w a) → true ≡ all_same (coded d k n g t t' b w) b
    agree_end j h f =
        let some : 0 < n = omega (arith, 𝓘.lent.narrow, size_least 𝓘.lent.coding.lent.size) in
        sym (columns_all eqb 0 n (2 ^ d) (coded d k n g t t' b w) b length_coded 𝓘.lent.size some (λ a l. f a (omega arith)))

    module _ (j : ℕ) (v : List ℕ) (e : take (k * 2 ^ d) v ≡ take (k * 2 ^ d) w) (r : Bool)
        (q : r ≡ all_same (every 0 n j (2 ^ d) (codeword_rows 𝓕 d k n g t t' (take (k * 2 ^ d) v))) (every 0 n j (2 ^ d) b)) where
      judged : r ≡ all_same (every 0 n j (2 ^ d) (coded d k n g t t' b w)) (every 0 n j (2 ^ d) b)
      judged = q ∙ ap (λ m. all_same (every 0 n j (2 ^ d) (codeword_rows 𝓕 d k n g t t' m)) (every 0 n j (2 ^ d) b)) e

      pub agree_turn : not r ≡ false → ((a : ℕ) → a < j → Agrees d k n g t t' b w a) → (a : ℕ) → a < j + 1 → Agrees d k n g t t' b w a
      agree_turn h f = below_more _ _ f (passes judged h)

      pub differs : j < n → not r ≡ true → false ≡ all_same (coded d k n g t t' b w) b
      differs h s = sym (columns_one eqb 0 n (2 ^ d) (coded d k n g t t' b w) b length_coded 𝓘.lent.size j h (fails judged s))
