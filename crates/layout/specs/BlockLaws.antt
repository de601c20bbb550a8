-- The block of a level: where it lies, its length and its words; and v. With any number of low variables. Assumes nothing.
use Rattle.std.specs.Prelude.{◌≡◌, Bool, cond, List, ℕ, ◌+◌, ◌*◌, ◌-◌, ◌^◌, ◌≤◌, ◌<◌, get_or, take, drop}
use Rattle.std.proofs.Math.Path.{refl, ap}
use Rattle.std.proofs.Common.{sym, ap₂, ◌∙◌, length-take, length-drop}
use Rattle.std.proofs.Math.Bool.{true, false}
use native.Mathlib.Omega.{arith}
use Rattle.std.proofs.Math.Dec.{ltb}
use Rattle.std.proofs.Math.ListN.{length}
use borrow.Author.Tests.{ltb-true, ltb-false, lt-ltb, le-ltb}
use Rattle.algebra.specs.Flags.{cond_true, cond_false}
use Rattle.algebra.specs.Words.{PrimeField}
use Rattle.algebra.specs.WordLists.{Low, low_take, low_drop, elements, elements_take, elements_drop, length_elements, get_or_elements}
use Rattle.job.specs.Limits.{block_size}
use Rattle.basefold.specs.Layout.{final_at, block_at, block_of, opening_size, carried}
use Rattle.basefold.specs.Plain.{elements_block}
use Rattle.layout.specs.LayoutLaws.{block_within}

-- of the top level, and of a lower one
pub block_top : {A : Type 0} (c low d : ℕ) (w o : List A) (i : ℕ) → i ≡ d → w ≡ block_of c low d w o i
unfolding block_of
block_top c low d w o i e = sym (cond_false (take (block_size c i) (drop (block_at c low d i) o)) w (le-ltb i d (omega arith)))

pub block_lower : {A : Type 0} (c low d : ℕ) (w o : List A) (i : ℕ) → i < d → take (block_size c i) (drop (block_at c low d i) o) ≡ block_of c low d w o i
unfolding block_of
block_lower c low d w o i h = sym (cond_true (take (block_size c i) (drop (block_at c low d i) o)) w (lt-ltb i d h))

-- as it is taken from the opening, by where it begins and ends
pub block_part : {A : Type 0} (c low d : ℕ) (w o : List A) (i : ℕ) {start n : ℕ} → i < d → start ≡ block_at c low d i → n ≡ block_size c i
    → take (start + n - start) (drop start o) ≡ block_of c low d w o i
block_part c low d w o i {start} {n} h p q =
    let e : start + n - start ≡ n = omega arith in
    ap₂ (λ a b. take a (drop b o)) (e ∙ q) p ∙ block_lower c low d w o i h

pub part_within : (c low d i : ℕ) {start n k : ℕ} → i < d → start ≡ block_at c low d i → n ≡ block_size c i → k ≡ opening_size c low d → start + n ≤ k
part_within c low d i h p q e = omega (arith, block_within c low d i h)

module _ (𝓕 : PrimeField) where
  open 𝓕 use {modulus as P, field as F, words as W}
  open F use {ring as K}
  open W use {el}

  module _ (c low d : ℕ) (w o : List ℕ) where
    -- the word at k
    pub block_word_lem : (i k : ℕ) → get_or (block_of c low d (elements 𝓕 w) (elements 𝓕 o) i) k K.𝟘 ≡ el (get_or (block_of c low d w o i) k 0)
    block_word_lem i k = ap (λ l. get_or l k K.𝟘) (sym (elements_block 𝓕 c low d w o i)) ∙ get_or_elements 𝓕 (block_of c low d w o i) k

    pub low_block : Low P w → Low P o → (i : ℕ) → Low P (block_of c low d w o i)
    unfolding block_of
    low_block lw lo i = go (ltb i d)
      where
        go : (b : Bool) → Low P (cond b (take (c * 2 ^ i) (drop (block_at c low d i) o)) w)
        go true = low_take (c * 2 ^ i) (low_drop (block_at c low d i) lo)
        go false = lw

    pub length_block : length w ≡ block_size c d → length o ≡ opening_size c low d → (i : ℕ) → i ≤ d → length (block_of c low d w o i) ≡ block_size c i
    unfolding block_of
    length_block lw lo i h = go (ltb i d) refl
      where
        go : (b : Bool) → ltb i d ≡ b → length (cond b (take (c * 2 ^ i) (drop (block_at c low d i) o)) w) ≡ c * 2 ^ i
        go true e =
            let l = ltb-true i d e in
            let m = block_within c low d i l in
            simp (length-take, length-drop) (omega arith)
        go false e =
            let l = ltb-false i d e in
            let same : d ≡ i = omega arith in
            lw ∙ ap (λ k. c * 2 ^ k) same

  -- what an opening carries is v
  pub carried_words : (low d : ℕ) (r o : List ℕ) → length r ≡ d → carried F low (elements 𝓕 o) (length (elements 𝓕 r)) ≡ elements 𝓕 (take (2 ^ low) (drop (final_at d) o))
  carried_words low d r o e =
      ap (λ n. carried F low (elements 𝓕 o) n) (length_elements 𝓕 r ∙ e) ∙ ap (take (2 ^ low)) (sym (elements_drop 𝓕 (final_at d) o)) ∙ sym (elements_take 𝓕 (2 ^ low) (drop (final_at d) o))
