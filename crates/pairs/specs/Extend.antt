-- A code over F as a code over the pairs: the real and the imaginary halves of a codeword are the codewords of the message's halves. Assumes nothing.
use Rattle.std.specs.Prelude.{◌≡◌, List, [], ◌∷◌, map, ℕ, suc, length}
use Rattle.std.proofs.Math.Path.{refl}
use Rattle.std.proofs.Common.{sym, ap, ◌∙◌}
use Rattle.algebra.specs.Field.{Field}
use Rattle.algebra.specs.Algebra.{algebra, quote}
use Rattle.foldable.specs.Code.{Code, size, encode, fold, Legal}
use Rattle.pairs.specs.Pair.{Pair, real, add_p, mul_p, NoRoot, extend}
use Rattle.pairs.specs.Square.{pair_path, square_field}
use Rattle.pairs.specs.Linear.{legal, Linear, encode_linear, fold_linear}
use Rattle.pairs.specs.Homomorphism.{plain, plain_code, Homomorphism, embedding, encode_image, fold_image}

module _ (F : Field) (no_root : NoRoot F) where
  open F use {ring as K}
  open K use {R, 𝟘}

  -- the pairs
  abbrev E : Field
  E = square_field F no_root

  -- F among the pairs, and the maps back
  pub real_homomorphism : Homomorphism F E (real K)
  unfolding add_p mul_p
  real_homomorphism =
      record {
        one = refl;
        sum = λ s t. pair_path refl (sym (K.add-zero 𝟘));
        product = λ s t. pair_path (algebra K (s ∷ t ∷ []) (search quote depth 20) refl) (algebra K (s ∷ t ∷ []) (search quote depth 20) refl);
      }

  re_linear : Linear F E F (real K) (λ s. s) (λ x. x.re)
  unfolding add_p mul_p
  re_linear =
      record {
        source = embedding F E (real K) real_homomorphism;
        target = plain F;
        none = refl;
        sum = λ x y. refl;
        multiple = λ s x. algebra K (s ∷ x.re ∷ x.im ∷ []) (search quote depth 20) refl;
      }

  im_linear : Linear F E F (real K) (λ s. s) (λ x. x.im)
  unfolding add_p mul_p
  im_linear =
      record {
        source = embedding F E (real K) real_homomorphism;
        target = plain F;
        none = refl;
        sum = λ x y. refl;
        multiple = λ s x. algebra K (s ∷ x.re ∷ x.im ∷ []) (search quote depth 20) refl;
      }

  module _ (C : Code F) where
    -- the code over the pairs
    abbrev D : Code E
    D = extend F E (real K) C

    pub legal_extend : (d : ℕ) → Legal F C d → Legal E D d
    legal_extend = legal F E (real K) (embedding F E (real K) real_homomorphism) C

    -- the halves of a codeword of pairs, and the codeword of elements of F
    pub encode_re : (i : ℕ) (m : List (Pair R)) → map (λ x. x.re) (encode E D i m) ≡ encode F C i (map (λ x. x.re) m)
    encode_re i m = encode_linear F E F (real K) (λ s. s) (λ x. x.re) re_linear C i m ∙ ap (λ B. encode F B i (map (λ x. x.re) m)) (plain_code F C)

    pub encode_im : (i : ℕ) (m : List (Pair R)) → map (λ x. x.im) (encode E D i m) ≡ encode F C i (map (λ x. x.im) m)
    encode_im i m = encode_linear F E F (real K) (λ s. s) (λ x. x.im) im_linear C i m ∙ ap (λ B. encode F B i (map (λ x. x.im) m)) (plain_code F C)

    pub encode_real : (i : ℕ) (m : List R) → encode E D i (map (real K) m) ≡ map (real K) (encode F C i m)
    encode_real i m = sym (encode_image F E (real K) real_homomorphism C i m)

    -- the same of the fold of a block by an element of F
    module _ (i : ℕ) (𝓛 : Legal F C (suc i)) (a : R) where
      pub fold_re : (w : List (Pair R)) → length w ≡ size F C (suc i) → map (λ x. x.re) (fold E D i (real K a) w) ≡ fold F C i a (map (λ x. x.re) w)
      fold_re w e = fold_linear F E F (real K) (λ s. s) (λ x. x.re) re_linear C i 𝓛 a w e ∙ ap (λ B. fold F B i a (map (λ x. x.re) w)) (plain_code F C)

      pub fold_im : (w : List (Pair R)) → length w ≡ size F C (suc i) → map (λ x. x.im) (fold E D i (real K a) w) ≡ fold F C i a (map (λ x. x.im) w)
      fold_im w e = fold_linear F E F (real K) (λ s. s) (λ x. x.im) im_linear C i 𝓛 a w e ∙ ap (λ B. fold F B i a (map (λ x. x.im) w)) (plain_code F C)

      pub fold_real : (w : List R) → length w ≡ size F C (suc i) → fold E D i (real K a) (map (real K) w) ≡ map (real K) (fold F C i a w)
      fold_real w e = sym (fold_image F E (real K) real_homomorphism C i 𝓛 a w e)
