-- The steps of a writer of openings: what each is lent, and what it leaves. Definitions only. Assumes nothing.
use Rattle.std.specs.Prelude.{◌≡◌, List, [], ◌∷◌, ◌++◌, ℕ, suc, ◌+◌, ◌-◌, ◌/◌, ◌^◌, ◌<◌, ◌≤◌, length, take, drop}
use Rattle.algebra.specs.Numerals.{num}
use Rattle.algebra.specs.Words.{PrimeField}
use Rattle.algebra.specs.WordLists.{Low as LowWords, elements, to_words}
use Rattle.basefold.specs.Layout.{final_at}
use Rattle.job.specs.Limits.{max_depth}
use Rattle.multilinear.specs.Folding.{fold_message}
use Rattle.multilinear.specs.Polynomial.{poly}
use Rattle.multilinear.specs.Rounds.{h}
use Rattle.polynomial.specs.Eq.{factor}
use Rattle.polynomial.specs.Lent.{EvaluateInput}
use Rattle.residue.specs.declared.Residue.{Residue}
use Rattle.residue.specs.Elements.{Low, elem}

module _ (𝓕 : PrimeField) where
  infixl 65 ◌⊞◌
  infixl 70 ◌⊠◌
  open 𝓕 use {modulus as P, field as F, words as W}
  open F use {ring as K}
  open K use {R as Element, ◌+◌ as ◌⊞◌, ◌*◌ as ◌⊠◌}
  open W use {el, val as word}

  -- a polynomial as it is sent: its values at 0, 1, 2
  abbrev pub values : (Element → Element) → List Element
  values f = f (num K 0) ∷ f (num K 1) ∷ f (num K 2) ∷ []

  -- the weight w times h of what is left, M, in the variables of y: no challenge is put into M's own variables yet
  abbrev pub round_of : Element → List Element → List Element → Element → Element
  round_of w M y X = w ⊠ h K 0 M y [] (length y) X

  -- the weight w times eq of z and x
  abbrev pub weighed : Element → Element → Element → Element
  weighed w z x = w ⊠ factor 𝓕 z x

  -- that, times the value at x of the line through l at 0 and l + r at 1
  abbrev pub weighed_line : Element → Element → Element → Element → Element → Element
  weighed_line w z l r x = weighed w z x ⊠ (l ⊞ x ⊠ r)

  -- a message that has a top variable
  pub record HalvesInput (z m : List ℕ) : Type 0 where
    pub value : EvaluateInput 𝓕 m z
    pub top : 0 < length z

  -- the values of both halves of m at the variables below the top one of z
  pub record HalfValues (z m : List Element) (left right : Residue) : Type 0 where
    pub left_is : left.0 ≡ word (poly K (take (2 ^ (length z - 1)) m) (take (length z - 1) z))
    pub right_is : right.0 ≡ word (poly K (drop (2 ^ (length z - 1)) m) (take (length z - 1) z))

  pub record SendInput (w : Residue) (z m : List ℕ) (n : ℕ) : Type 0 where
    pub weight : Low 𝓕 w
    pub halves : HalvesInput z m
    pub size : n ≡ 3

  pub record FoldInput (a : Residue) (m : List ℕ) : Type 0 where
    pub challenge : Low 𝓕 a
    pub message : LowWords P m
    pub even : length m ≡ length m / 2 + length m / 2

  -- left + a right, then what was the right half
  unfoldable pub folded_front : Element → List ℕ → List ℕ
  folded_front a m = to_words 𝓕 (fold_message K (length m / 2) a (elements 𝓕 m)) ++ drop (length m / 2) m

  -- what is left above level i stands in the front of s
  pub record LeftAbove (i : ℕ) (s : List ℕ) : Type 0 where
    pub room : 2 ^ suc i ≤ length s
    pub low : LowWords P (take (2 ^ suc i) s)

  pub record GiveRoundInput (d i : ℕ) (w : Residue) (z : List ℕ) (n : ℕ) (s : List ℕ) : Type 0 where
    pub level : i < d
    pub deep : d ≤ max_depth
    pub weight : Low 𝓕 w
    pub point : length z ≡ d
    pub low : LowWords P z
    pub size : final_at d ≤ n
    pub above : LeftAbove i s

  -- h_(i+1) as it is sent
  abbrev pub sent_words : ℕ → Residue → List ℕ → List ℕ → List ℕ
  sent_words i w z s = to_words 𝓕 (values (round_of (elem 𝓕 w) (elements 𝓕 (take (2 ^ suc i) s)) (elements 𝓕 (take (suc i) z))))

  -- what is left at level i once the challenge a is put in
  abbrev pub left_of : ℕ → ℕ → List ℕ → List Element
  left_of i a s = fold_message K (2 ^ i) (el a) (elements 𝓕 (take (2 ^ suc i) s))
