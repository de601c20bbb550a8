-- Lists of one length, one behind the other, and the first places of blocks as such a list. Assumes nothing.
use Rattle.std.specs.Prelude.{◌≡◌, length}
use Rattle.std.proofs.Math.Path.{refl, sym, ap, ap₂}
use Rattle.std.proofs.Common.{◌∙◌, mul-zero, mul-le-mul_left, arith, length-take, length-drop, drop_at, drop-drop}
use mathlib.Core.List.{List, ◌++◌, flat_map}
use Prim.Native.Nat.{ℕ, zero, suc, ◌+◌, ◌*◌, ◌<◌, ◌≤◌}
use Rattle.std.proofs.Math.Nat.{mul-suc}
use Rattle.std.proofs.Math.ListN.{take, drop, length-append}
use Rattle.std.proofs.Math.Seq.{take_at}
use Rattle.algebra.specs.Lists.{row, row_ext}
use Rattle.algebra.specs.Matrix.{length_times}
use Rattle.algebra.specs.Words.{PrimeField}
use Rattle.algebra.specs.WordLists.{elements, length_words_lem}
use Rattle.cofactor.specs.Rows.{first_columns}
use Rattle.cofactor.specs.RowLaws.{first_square}
use Rattle.base_matrix.specs.Inverting.{solved}
use Rattle.foldable.specs.Columns.{pick}

module _ {A B : Type 0} (f : A → List B) (n : ℕ) where
  pub length_pieces : (q : ℕ) (h : ℕ → A) → ((j : ℕ) → j < q → length (f (h j)) ≡ n) → length (flat_map f (row q h)) ≡ n * q
  unfolding row flat_map
  length_pieces zero h e = sym (mul-zero n)
  length_pieces (suc q) h e =
      length-append (f (h 0)) (flat_map f (row q (λ i. h (suc i))))
      ∙ omega (arith, e 0 (omega arith), length_pieces q (λ i. h (suc i)) (λ j l. e (suc j) (omega arith)), mul-suc n q)

  -- list j of them
  pub piece : (q : ℕ) (h : ℕ → A) → ((j : ℕ) → j < q → length (f (h j)) ≡ n) → (j : ℕ) → j < q → take n (drop (n * j) (flat_map f (row q h))) ≡ f (h j)
  unfolding row flat_map
  piece zero h e j l = absurd (omega arith)
  piece (suc q) h e zero l = ap (λ k. take n (drop k (f (h 0) ++ flat_map f (row q (λ i. h (suc i)))))) (mul-zero n) ∙ take_at (f (h 0)) _ n (e 0 (omega arith))
  piece (suc q) h e (suc j) l =
      let rest = flat_map f (row q (λ i. h (suc i))) in
      let m : n * suc j ≡ n + n * j = omega (arith, mul-suc n j) in
      ap (λ k. take n (drop k (f (h 0) ++ rest))) m
      ∙ ap (take n) (sym (drop-drop (n * j) n (f (h 0) ++ rest)) ∙ ap (drop (n * j)) (drop_at (f (h 0)) rest n (e 0 (omega arith))))
      ∙ piece q (λ i. h (suc i)) (λ i k. e (suc i) (omega arith)) j (omega arith)

-- one list for each, by f or given
pub flat_row : {A B : Type 0} (f : A → List B) (q : ℕ) (h : ℕ → A) (g : ℕ → List B) → ((j : ℕ) → j < q → f (h j) ≡ g j) → flat_map f (row q h) ≡ flat_map (λ v. v) (row q g)
unfolding row flat_map
flat_row f zero h g e = refl
flat_row f (suc q) h g e = ap₂ ◌++◌ (e 0 (omega arith)) (flat_row f q (λ i. h (suc i)) (λ i. g (suc i)) (λ j l. e (suc j) (omega arith)))

module _ {A : Type 0} where
  -- the first k places of each of q blocks
  pub pick_pieces : (n k q : ℕ) (w : List A) → pick n k q w ≡ flat_map (λ v. v) (row q (λ j. take k (drop (n * j) w)))
  unfolding pick row flat_map
  pick_pieces n k zero w = refl
  pick_pieces n k (suc q) w =
      ap₂ ◌++◌ (ap (λ i. take k (drop i w)) (sym (mul-zero n)))
      (pick_pieces n k q (drop n w) ∙ ap (flat_map (λ v. v)) (row_ext q _ _
      (λ j h. let m : n + n * j ≡ n * suc j = omega (arith, mul-suc n j) in ap (take k) (drop-drop (n * j) n w ∙ ap (λ i. drop i w) m))))

  -- block j of q blocks of n places has its first k
  pub front_length : (n k q : ℕ) (w : List A) → k ≤ n → length w ≡ n * q → (j : ℕ) → j < q → length (take k (drop (n * j) w)) ≡ k
  front_length n k q w few e j h =
      length-take k (drop (n * j) w) ∙ omega (arith, length-drop (n * j) w, mul-le-mul_left {m = suc j} {n = q} n h, mul-suc n j)

  pub piece_length : (k q : ℕ) (w : List A) → length w ≡ k * q → (j : ℕ) → j < q → length (take k (drop (k * j) w)) ≡ k
  piece_length k q w = front_length k k q w (omega arith)

  pub pick_piece : (n k q : ℕ) (w : List A) → k ≤ n → length w ≡ n * q → (j : ℕ) → j < q → take k (drop (k * j) (pick n k q w)) ≡ take k (drop (n * j) w)
  pick_piece n k q w few e j h =
      ap (λ v. take k (drop (k * j) v)) (pick_pieces n k q w) ∙ piece (λ v. v) k q (λ i. take k (drop (n * i) w)) (front_length n k q w few e) j h

-- at most four words solved are as many
pub length_solved : (𝓕 : PrimeField) (m b : List ℕ) → length b ≤ 4 → length m ≡ 16 → length (solved 𝓕 m b) ≡ length b
unfolding solved
length_solved 𝓕 m b few e =
    length_words_lem 𝓕 _
    ∙ length_times 𝓕.field.ring (length b) (elements 𝓕 b) (first_columns 𝓕 (length b) 4 m) (first_square 𝓕 (length b) 4 m few (omega (arith, e))).wide
