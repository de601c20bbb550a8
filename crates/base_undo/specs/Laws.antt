-- The only message that a block allows, by the columns of the block. Assumes nothing.
use Rattle.std.specs.Prelude.{◌≡◌, ℕ, ◌+◌, ◌*◌, ◌-◌, ◌/◌, ◌^◌, ◌≤◌, ◌<◌, drop, get_or}
use Rattle.std.proofs.Math.Path.{refl, sym, ap, ap₂}
use Rattle.std.proofs.Common.{◌∙◌, mul_comm, arith, get_or-take, get_or-drop}
use mathlib.Core.List.{List, [], ◌∷◌, ◌++◌, flat_map}
use Rattle.std.proofs.Math.Nat.{mul-div_cancel_left}
use Rattle.std.proofs.Math.ListN.{length, take}
use Rattle.algebra.specs.Lists.{row, length_row, row_ext, map_row}
use Rattle.algebra.specs.Matrix.{times}
use Rattle.algebra.specs.Words.{PrimeField}
use Rattle.algebra.specs.WordLists.{Low, low_words, elements, to_words, length_elements, length_words_lem, get_or_elements, get_or_words, elements_words, words_append}
use Rattle.foldable.specs.Code.{Code}
use Rattle.foldable.specs.Columns.{pick, length_pick, restrict}
use Rattle.foldable.specs.Decode.{undo, decode}
use Rattle.foldable.specs.Every.{every, place_within}
use Rattle.job.specs.Limits.{diagonals_size}
use Rattle.parameters.specs.Lent.{diagonal}
use Rattle.parameters.specs.LentLaws.{length_diagonal, get_or_diagonal}
use Rattle.inversion.specs.Strides.{stride_place}
use Rattle.blocks.specs.Base.{base_messages}
use Rattle.cofactor.specs.Rows.{first_columns}
use Rattle.base_matrix.specs.Inverting.{solved}
use Rattle.base_spread.specs.LentRows.{lent_rows}
use Rattle.base_columns.specs.Steps.{solved_blocks}
use Rattle.base_columns.specs.Pieces.{length_pieces, piece, flat_row, pick_piece}
use Rattle.base_undo.specs.Steps.{column_diagonal, grouped, column_of, undone_words, RowsInput, decoded_rows}
use Rattle.base_undo.specs.ByColumns.{ColumnsOf, across, undo_columns}

-- column b of the first k columns is that of all
pub every_front : {A : Type 0} (x : A) (n k q : ℕ) (w : List A) → k ≤ n → length w ≡ n * q → (b : ℕ) → b < k → every x k b q (pick n k q w) ≡ every x n b q w
every_front x n k q w few e b h = row_ext q _ _ at
  where
    at : (j : ℕ) → j < q → get_or (pick n k q w) (b + j * k) x ≡ get_or w (b + j * n) x
    at j l =
        let p : b + j * k ≡ k * j + b = omega (arith, mul_comm j k) in
        let r : n * j + b ≡ b + j * n = omega (arith, mul_comm j n) in
        ap (λ i. get_or (pick n k q w) i x) p ∙ sym (get_or-drop (k * j) (pick n k q w) b x) ∙ sym (get_or-take k (drop (k * j) (pick n k q w)) b x h)
        ∙ ap (λ v. get_or v b x) (pick_piece n k q w few e j l)
        ∙ get_or-take k (drop (n * j) w) b x h ∙ get_or-drop (n * j) w b x ∙ ap (λ i. get_or w i x) r

pub length_grouped : (k q : ℕ) (f : ℕ → ℕ → ℕ) → length (grouped k q f) ≡ k * q
unfolding grouped
length_grouped k q f = length_pieces (λ v. v) k q _ (λ j h. length_row k _)

-- group j
pub group_is : (k q : ℕ) (f : ℕ → ℕ → ℕ) (j : ℕ) → j < q → take k (drop (k * j) (grouped k q f)) ≡ row k (λ b. f b j)
unfolding grouped
group_is k q f j h = piece (λ v. v) k q (λ j. row k (λ b. f b j)) (λ j h. length_row k _) j h

pub grouped_ext : (k q : ℕ) (f g : ℕ → ℕ → ℕ) → ((b j : ℕ) → b < k → j < q → f b j ≡ g b j) → grouped k q f ≡ grouped k q g
unfolding grouped
grouped_ext k q f g e = ap (flat_map (λ v. v)) (row_ext q _ _ (λ j l. row_ext k _ _ (λ b h. e b j h l)))

module _ (𝓕 : PrimeField) where
  open 𝓕 use {modulus as P, field as F, words as W}
  open F use {ring as K}
  open K use {R as Element, 𝟘}
  open W use {el, val as word}

  elements_every : (n b q : ℕ) (w : List ℕ) → elements 𝓕 (every 0 n b q w) ≡ every 𝟘 n b q (elements 𝓕 w)
  unfolding elements
  elements_every n b q w = map_row el q _ ∙ row_ext q _ _ (λ j h. sym (get_or_elements 𝓕 w (b + j * n)))

  words_flat : {A : Type 0} (f : A → List Element) (l : List A) → to_words 𝓕 (flat_map f l) ≡ flat_map (λ x. to_words 𝓕 (f x)) l
  unfolding flat_map to_words
  words_flat f [] = refl
  words_flat f (x ∷ l) = words_append 𝓕 (f x) (flat_map f l) ∙ ap (λ v. to_words 𝓕 (f x) ++ v) (words_flat f l)

  module _ (d k n : ℕ) (g m t t' w : List ℕ) (size : ℕ) (𝓘 : RowsInput 𝓕 d k n t t' w size) where
    few : k ≤ n
    few = omega (arith, 𝓘.narrow)

    -- the code on the first k columns, and those of its columns
    abbrev front : Code F
    front = restrict F (lent_rows 𝓕 k n g t t') k

    abbrev each : ℕ → Code F
    each b = column_of 𝓕 n b t t'

    level_length : (s : List ℕ) → length s ≡ diagonals_size n d → (i : ℕ) → i < d → length (elements 𝓕 (diagonal n s i)) ≡ n * 2 ^ i
    level_length s e i h = length_elements 𝓕 (diagonal n s i) ∙ length_diagonal n d i s h (omega arith)

    level_column : (s : List ℕ) → length s ≡ diagonals_size n d → (b i : ℕ) → b < k → i < d
        → elements 𝓕 (column_diagonal n b s i) ≡ every 𝟘 k b (2 ^ i) (pick n k (2 ^ i) (elements 𝓕 (diagonal n s i)))
    unfolding elements
    level_column s e b i h l =
        map_row el (2 ^ i) _
        ∙ row_ext (2 ^ i) _ _
        (λ j r. let p : b + (2 ^ i - 1 + j) * n ≡ n * (2 ^ i - 1) + (b + j * n) = omega (arith, stride_place (2 ^ i - 1) j n) in
        ap (λ q. el (get_or s q 0)) p
        ∙ ap el (sym (get_or_diagonal n i s (b + j * n) (place_within n (2 ^ i) b j (omega (arith, few)) r)))
        ∙ sym (get_or_elements 𝓕 (diagonal n s i) (b + j * n)))
        ∙ sym (every_front 𝟘 n k (2 ^ i) (elements 𝓕 (diagonal n s i)) few (level_length s e i l) b h)

    columns_of : ColumnsOf F front each d
    columns_of =
        record {
          one = λ b h. refl;
          first = level_column t 𝓘.input.first;
          second = level_column t' 𝓘.input.second;
          sized = λ i h. length_pick n k (2 ^ i) _ few (level_length t 𝓘.input.first i h);
          sized' = λ i h. length_pick n k (2 ^ i) _ few (level_length t' 𝓘.input.second i h);
        }

    block_length : length (elements 𝓕 w) ≡ n * 2 ^ d
    block_length = length_elements 𝓕 w ∙ 𝓘.input.sized

    abbrev picked : List Element
    picked = pick n k (2 ^ d) (elements 𝓕 w)

    abbrev undone_word : ℕ → ℕ → ℕ
    undone_word b j = get_or (undone_words 𝓕 d n b t t' w) j 0

    -- the words of what stands at j in the columns
    words_across : (j : ℕ) → row k (λ b. undone_word b j) ≡ to_words 𝓕 (across F front each d picked j)
    unfolding undone_words to_words
    words_across j =
        row_ext k _ _
        (λ b h. get_or_words 𝓕 (undo F (each b) (λ v. v) d (elements 𝓕 (every 0 n b (2 ^ d) w))) j
        ∙ ap (λ v. word (get_or (undo F (each b) (λ v. v) d v) j 𝟘)) (elements_every n b (2 ^ d) w ∙ sym (every_front 𝟘 n k (2 ^ d) (elements 𝓕 w) few block_length b h)))
        ∙ sym (map_row word k _)

    abbrev groups : List ℕ
    groups = grouped k (2 ^ d) undone_word

    pub low_groups : Low P groups
    unfolding grouped
    low_groups =
        rw (sym (words_flat (λ v. v) (row (2 ^ d) (across F front each d picked)) ∙ flat_row (to_words 𝓕) (2 ^ d) _ _ (λ j h. sym (words_across j))))
        (low_words 𝓕 (flat_map (λ v. v) (row (2 ^ d) (across F front each d picked))))

    abbrev base : List Element → List Element
    base v = times K k v (first_columns 𝓕 k 4 m)

    solved_across : (v : List Element) → length v ≡ k → solved 𝓕 m (to_words 𝓕 v) ≡ to_words 𝓕 (base v)
    unfolding solved
    solved_across v e = ap₂ (λ i u. to_words 𝓕 (times K i u (first_columns 𝓕 i 4 m))) (length_words_lem 𝓕 v ∙ e) (elements_words 𝓕 v)

    -- the message is what the groups across the undone columns solve to
    pub decoded_columns : solved_blocks 𝓕 k m groups ≡ decoded_rows 𝓕 d k n g m t t' w
    unfolding solved_blocks base_messages decoded_rows decode
    decoded_columns =
        let q : length groups / k ≡ 2 ^ d = ap (λ l. l / k) (length_grouped k (2 ^ d) undone_word) ∙ mul-div_cancel_left (2 ^ d) 𝓘.some in
        ap (λ b. flat_map (solved 𝓕 m) (row b (λ j. take k (drop (k * j) groups)))) q
        ∙ flat_row (solved 𝓕 m) (2 ^ d) _ (λ j. to_words 𝓕 (base (across F front each d picked j)))
        (λ j h. ap (solved 𝓕 m) (group_is k (2 ^ d) undone_word j h ∙ words_across j) ∙ solved_across (across F front each d picked j) (length_row k _))
        ∙ sym (flat_row (λ v. to_words 𝓕 (base v)) (2 ^ d) (across F front each d picked) _ (λ j h. refl))
        ∙ sym (words_flat base (row (2 ^ d) (across F front each d picked)))
        ∙ ap (to_words 𝓕) (sym (undo_columns F front each base d columns_of picked (length_pick n k (2 ^ d) (elements 𝓕 w) few block_length)))
