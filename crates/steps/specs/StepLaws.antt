-- What is left of the message after a challenge. Assumes nothing.
use Rattle.std.specs.Prelude.{◌≡◌, List, ℕ, suc, ◌+◌, ◌^◌, length, take, drop}
use Rattle.std.proofs.Common.{◌∙◌, arith, length-take, length-drop}
use Rattle.std.proofs.Math.Nat.{two-pow-succ}
use Rattle.algebra.specs.Vector.{length_mix}
use Rattle.algebra.specs.Words.{PrimeField}
use Rattle.algebra.specs.WordLists.{elements, to_words, length_words_lem, length_elements}
use Rattle.steps.specs.Steps.{LeftAbove, left_of}

module _ (𝓕 : PrimeField) where
  open 𝓕 use {field as F, words as W}
  open F use {ring as K}
  open W use {el}

  pub length_left_of : (i a : ℕ) (s : List ℕ) → LeftAbove 𝓕 i s → length (to_words 𝓕 (left_of 𝓕 i a s)) ≡ 2 ^ i
  length_left_of i a s 𝓐 =
      let E = elements 𝓕 (take (2 ^ suc i) s) in
      let n : length E ≡ 2 ^ i + 2 ^ i = length_elements 𝓕 _ ∙ length-take (2 ^ suc i) s ∙ omega (arith, 𝓐.room, two-pow-succ i) in
      length_words_lem 𝓕 _
      ∙ length_mix K (2 ^ i) (take (2 ^ i) E) (el a) (drop (2 ^ i) E) (length-take (2 ^ i) E ∙ omega arith) (length-drop (2 ^ i) E ∙ omega arith)
