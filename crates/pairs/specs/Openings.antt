-- A homomorphism takes the opening of a message, as it is written, to the opening of the message's image. Assumes nothing.
use Rattle.std.specs.Prelude.{◌≡◌, get_or}
use Rattle.std.proofs.Math.Path.{refl, ap, ap₂}
use Rattle.std.proofs.Common.{sym, ◌∙◌}
use mathlib.Core.List.{List, ◌∷◌, ◌++◌, map, map-append}
use Prim.Native.Nat.{ℕ, zero, suc, ◌-◌, ◌≤◌}
use native.Mathlib.Omega.{arith}
use Rattle.std.proofs.Math.ListN.{length}
use Rattle.std.proofs.lemmas.List.{length-map}
use Rattle.algebra.specs.Field.{Field}
use Rattle.algebra.specs.Numerals.{num}
use Rattle.foldable.specs.Code.{Code, size, encode, fold, Legal}
use Rattle.multilinear.specs.Rounds.{h, final}
use Rattle.basefold.specs.Written.{rounds, descend, blocks, opening}
use Rattle.basefold.specs.Descent.{legal_at, length_descend}
use Rattle.pairs.specs.Pair.{extend}
use Rattle.pairs.specs.Homomorphism.{Homomorphism, num_image, get_or_image, encode_image, fold_image}
use Rattle.pairs.specs.Polynomials.{h_image, final_image}

module _ (F E : Field) (ι : F.ring.R → E.ring.R) (𝓗 : Homomorphism F E ι) (low : ℕ) where
  open F use {ring as K}
  open E use {ring as L}
  open K use {R, 𝟘}

  rounds_image : (m z r : List R) (i : ℕ) → map ι (rounds F low m z r i) ≡ rounds E low (map ι m) (map ι z) (map ι r) i
  unfolding rounds
  rounds_image m z r zero = refl
  rounds_image m z r (suc i) =
      let at : (n : ℕ) → ι (h K low m z r (suc i) (num K n)) ≡ h L low (map ι m) (map ι z) (map ι r) (suc i) (num L n) =
      λ n. h_image F E ι 𝓗 low m z r (suc i) (num K n) ∙ ap (h L low (map ι m) (map ι z) (map ι r) (suc i)) (num_image F E ι 𝓗 n) in
      λ k. at 0 k ∷ at 1 k ∷ at 2 k ∷ rounds_image m z r i k

  module _ (C : Code F) (m z r : List R) (𝓛 : Legal F C (length r)) where
    abbrev D : Code E
    D = extend F E ι C

    pub descend_image : (k : ℕ) → k ≤ length r → map ι (descend F low C m r k) ≡ descend E low D (map ι m) (map ι r) k
    unfolding descend
    descend_image zero l = encode_image F E ι 𝓗 C (length r) m ∙ ap (λ d. encode E D d (map ι m)) (sym (length-map r ι))
    descend_image (suc k) l =
        let i = length r - suc k in
        let up : length r - k ≡ suc i = omega arith in
        fold_image F E ι 𝓗 C i (legal_at F C (length r) (suc i) (omega arith) 𝓛) (get_or r i 𝟘) (descend F low C m r k)
        (length_descend F low C m z r 𝓛 k (omega arith) ∙ ap (size F C) up)
        ∙ ap₂ (fold E D i) (get_or_image F E ι 𝓗 r i) (descend_image k (omega arith))
        ∙ ap (λ d. fold E D (d - suc k) (get_or (map ι r) (d - suc k) L.𝟘) (descend E low D (map ι m) (map ι r) k)) (sym (length-map r ι))

    blocks_image : (k : ℕ) → k ≤ length r → map ι (blocks F low C m r k) ≡ blocks E low D (map ι m) (map ι r) k
    unfolding blocks
    blocks_image zero l = refl
    blocks_image (suc k) l =
        map-append ι (blocks F low C m r k) (descend F low C m r (suc k)) ∙ ap₂ ◌++◌ (blocks_image k (omega arith)) (descend_image (suc k) l)

    pub opening_image : map ι (opening F low C m z r) ≡ opening E low D (map ι m) (map ι z) (map ι r)
    unfolding opening
    opening_image =
        let d = length r in
        map-append ι (rounds F low m z r d) (final K low m r ++ blocks F low C m r d)
        ∙ ap₂ ◌++◌ (rounds_image m z r d)
        (map-append ι (final K low m r) (blocks F low C m r d) ∙ ap₂ ◌++◌ (final_image F E ι 𝓗 low m r) (blocks_image d (omega arith)))
        ∙ ap (λ n. rounds E low (map ι m) (map ι z) (map ι r) n ++ (final L low (map ι m) (map ι r) ++ blocks E low D (map ι m) (map ι r) n)) (sym (length-map r ι))
