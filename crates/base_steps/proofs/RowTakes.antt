-- A challenge is taken: what is folded, and what is left then. Assumes nothing.
use mathlib.Core.Path.{◌≡◌, sym, ap, ◌∙◌}
use mathlib.Core.List.{List, ◌++◌, append_assoc}
use Prim.Native.Nat.{ℕ, suc, ◌+◌, ◌/◌, ◌^◌, ◌≤◌}
use native.Mathlib.Nat.{two-pow-succ}
use native.Mathlib.Numerals.{add-one}
use native.Mathlib.Omega.{arith}
use lib.ListN.{length, take, drop, get_or, length-take, take-append-drop}
use lib.Seq.{drop-append-le}
use Rattle.algebra.specs.Words.{PrimeField}
use Rattle.algebra.specs.WordLists.{elements, to_words}
use Rattle.multilinear.specs.Folding.{fold_message}
use Rattle.residue.specs.declared.Residue.{Residue}
use Rattle.residue.specs.Elements.{elem}
use Rattle.steps.specs.Steps.{FoldInput, folded_front, left_of}
use Rattle.base_steps.specs.RowSteps.{TakeInput}

module _ (𝓕 : PrimeField) where
  open 𝓕 use {field as F, words as W}
  open F use {ring as K}
  open W use {el}

  -- the message that is folded has n words, and the challenge is a
  module _ (low i : ℕ) (w : Residue) (z r s : List ℕ) (𝓣 : TakeInput 𝓕 low i w z r s) (n : ℕ) (a : Residue) (p : n ≡ 2 ^ (low + i + 1)) (q : a.0 ≡ get_or r i 0) where
    whole : n ≡ 2 ^ suc (low + i)
    whole = p ∙ ap (λ k. 2 ^ k) (add-one (low + i))

    pub whole_within : n ≤ length s
    whole_within = omega (arith, whole, 𝓣.above.room)

    sized : length (take n s) ≡ n
    sized = length-take n s ∙ omega (arith, whole_within)

    half : length (take n s) / 2 ≡ 2 ^ (low + i)
    half = omega (arith, sized, whole, two-pow-succ (low + i))

    pub fold_input : FoldInput 𝓕 a (take n s)
    fold_input =
        record {
          challenge = rw q (𝓣.challenges_low.low i 𝓣.challenge);
          message = rw whole 𝓣.above.low;
          even = omega (arith, sized, whole, two-pow-succ (low + i));
        }

    pub challenge_taken : (m : List ℕ) → m ≡ folded_front 𝓕 (elem 𝓕 a) (take n s) → m ++ drop n s ≡ to_words 𝓕 (left_of 𝓕 (low + i) (get_or r i 0) s) ++ drop (2 ^ (low + i)) s
    unfolding folded_front
    challenge_taken m e =
        ap (λ v. v ++ drop n s) e
        ∙ append_assoc (to_words 𝓕 (fold_message K (length (take n s) / 2) (elem 𝓕 a) (elements 𝓕 (take n s)))) (drop (length (take n s) / 2) (take n s)) (drop n s)
        ∙ (λ x. to_words 𝓕 (fold_message K (half x) (el (q x)) (elements 𝓕 (take (whole x) s))) ++ (drop (half x) (take n s) ++ drop n s))
        ∙ ap (λ v. to_words 𝓕 (left_of 𝓕 (low + i) (get_or r i 0) s) ++ v)
        (sym (drop-append-le (2 ^ (low + i)) (take n s) (drop n s) (omega (arith, sized, whole, two-pow-succ (low + i)))) ∙ ap (drop (2 ^ (low + i))) (take-append-drop n s))
