-- The words of the monomials, one variable after the other. Assumes nothing.
use mathlib.Core.Path.{◌≡◌, refl, sym, ap, ap₂, ◌∙◌, subst}
use mathlib.Core.Logic.{⊎_elim}
use mathlib.Core.List.{List}
use Prim.Native.Nat.{ℕ, suc, ◌+◌, ◌-◌, ◌^◌, ◌<◌, ◌≤◌}
use native.Mathlib.Nat.{two-pow-succ, eq-or-lt_of_le}
use native.Mathlib.Numerals.{add-one}
use native.Mathlib.Omega.{arith}
use lib.ListN.{length, get_or, set, length-set}
use lib.Pow.{pow_mono}
use lib.Seq.{get_or-set_same, get_or-set_other}
use borrow.Author.Count.{below_more}
use Rattle.algebra.specs.Order.{lt_or_ge}
use Rattle.algebra.specs.Words.{PrimeField}
use Rattle.algebra.specs.WordLists.{elements, length_elements, get_or_elements}
use Rattle.multilinear.specs.Polynomial.{monomial}
use Rattle.residue.specs.ResidueLaws.{is_low, stands}
use Rattle.polynomial.specs.Monomials.{Monomials, Extensible, Extended}
use Rattle.polynomial.specs.MonomialLaws.{monomial_none, monomial_set}

module _ (𝓕 : PrimeField) where
  infixl 70 ◌⊠◌
  open 𝓕 use {modulus as P, field as F, words as W}
  open F use {ring as K}
  open K use {◌*◌ as ◌⊠◌}
  open W use {el, val as word}

  -- the first n of the words times x are there
  pub record Extending (n size x : ℕ) (old new : List ℕ) : Type 0 where
    pub long : length new ≡ length old
    pub kept : (b : ℕ) → b < size → get_or new b 0 ≡ get_or old b 0
    pub more : (b : ℕ) → b < n → get_or new (size + b) 0 ≡ word (el (get_or old b 0) ⊠ el x)

  pub extending_none : (size x : ℕ) (w : List ℕ) → Extending 0 size x w w
  extending_none size x w = record { long = refl; kept = λ b h. refl; more = λ b h. absurd (omega arith) }

  pub extending_turn : (b size x v : ℕ) (old new : List ℕ) → size + size ≤ length old → b < size → v ≡ word (el (get_or new b 0) ⊠ el x)
      → Extending b size x old new → Extending (b + 1) size x old (set new (size + b) v)
  extending_turn b size x v old new room h e p =
      record {
        long = length-set new (size + b) v ∙ p.long;
        kept = λ k l. get_or-set_other new (size + b) k v 0 (λ q. omega arith) ∙ p.kept k l;
        more =
            below_more (λ k. get_or (set new (size + b) v) (size + k) 0 ≡ word (el (get_or old k 0) ⊠ el x)) b
            (λ k l. get_or-set_other new (size + b) (size + k) v 0 (λ q. omega arith) ∙ p.more k l)
            (get_or-set_same new (size + b) v 0 (omega (arith, p.long)) ∙ e ∙ ap (λ a. word (el a ⊠ el x)) (p.kept b h));
      }

  pub extending_end : (size x : ℕ) (old new : List ℕ) → Extending size size x old new → Extended 𝓕 size x old new
  extending_end size x old new p = record { long = p.long; kept = p.kept; more = p.more }

  -- the monomials of the first i variables are there
  pub record Grown (z : List ℕ) (i size : ℕ) (w : List ℕ) : Type 0 where
    pub size_is : size ≡ 2 ^ i
    pub long : length w ≡ 64
    pub product : (b : ℕ) → b < size → get_or w b 0 ≡ word (monomial K b (elements 𝓕 z))

  pub grown_none : (z w : List ℕ) → length w ≡ 64 → Grown z 0 1 (set w 0 1)
  grown_none z w e = record { size_is = refl; long = length-set w 0 1 ∙ e; product = none }
    where
      none : (b : ℕ) → b < 1 → get_or (set w 0 1) b 0 ≡ word (monomial K b (elements 𝓕 z))
      none b h =
          let q : 0 ≡ b = omega arith in
          subst (λ k. get_or (set w 0 1) k 0 ≡ word (monomial K k (elements 𝓕 z))) q
          (get_or-set_same w 0 1 0 (omega (arith, e)) ∙ sym (𝓕.words.val_el 1 (omega (arith, 𝓕.above)))
          ∙ ap word (𝓕.words.el_one ∙ sym (monomial_none K (elements 𝓕 z))))

  module _ (z : List ℕ) (i size : ℕ) (w : List ℕ) (p : Grown z i size w) (hi : i < 6) where
    pub room : size + size ≤ 64
    room = omega (arith, p.size_is, two-pow-succ i, pow_mono {i = suc i} {j = 6} (omega arith))

    pub extensible : (x : ℕ) → x < P → Extensible 𝓕 size x w
    extensible x l = record { room = omega (arith, room, p.long); words = λ b h. is_low 𝓕 _ (p.product b h); factor = l }

    pub grown_turn : i < length z → (new : List ℕ) → Extended 𝓕 size (get_or z i 0) w new → Grown z (i + 1) (size + size) new
    grown_turn h new e =
        record {
          size_is = ap₂ ◌+◌ p.size_is p.size_is ∙ sym (two-pow-succ i) ∙ ap (λ k. 2 ^ k) (sym (add-one i));
          long = e.long ∙ p.long;
          product = at;
        }
      where
        upper : (b : ℕ) → b < size → get_or new (size + b) 0 ≡ word (monomial K (size + b) (elements 𝓕 z))
        upper b l =
            e.more b l
            ∙ ap word (ap₂ ◌⊠◌ (stands 𝓕 _ (p.product b l)) (sym (get_or_elements 𝓕 z i))
            ∙ sym (monomial_set K i b (elements 𝓕 z) (omega (arith, length_elements 𝓕 z)) (omega (arith, p.size_is)))
            ∙ ap (λ k. monomial K (k + b) (elements 𝓕 z)) (sym p.size_is))

        at : (b : ℕ) → b < size + size → get_or new b 0 ≡ word (monomial K b (elements 𝓕 z))
        at b l =
            ⊎_elim (λ k. e.kept b k ∙ p.product b k)
            (λ k.
            let q : size + (b - size) ≡ b = omega arith in
            subst (λ j. get_or new j 0 ≡ word (monomial K j (elements 𝓕 z))) q (upper (b - size) (omega arith)))
            (lt_or_ge b size)

  pub grown_end : (z : List ℕ) (i size : ℕ) (w : List ℕ) → Grown z i size w → i ≤ 6 → ((i < length z) → (i < 6) → ⊥) → Monomials 𝓕 w z
  grown_end z i size w p h o = record { size = p.long; product = at }
    where
      at : (b : ℕ) → b < 64 → b < 2 ^ length z → get_or w b 0 ≡ word (monomial K b (elements 𝓕 z))
      at b l m =
          p.product b
          (⊎_elim (λ e. omega (arith, p.size_is ∙ ap (λ k. 2 ^ k) e))
          (λ k. ⊎_elim (λ f. absurd (o f k)) (λ f. omega (arith, p.size_is, pow_mono {i = length z} {j = i} f)) (lt_or_ge i (length z)))
          (eq-or-lt_of_le h))
