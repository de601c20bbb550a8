-- h in an opening: what is lent to write it, and what stands there then. Assumes nothing.
use mathlib.Core.Path.{◌≡◌, sym, ap, ap₂, ◌∙◌}
use mathlib.Core.List.{List, ◌++◌}
use Prim.Native.Nat.{ℕ, suc, ◌+◌, ◌-◌, ◌^◌, ◌≤◌}
use native.Mathlib.Numerals.{add-one}
use native.Mathlib.Omega.{arith}
use lib.ListN.{length, take, drop, length-take, length-drop}
use lib.Seq.{drop-drop}
use borrow.Rule.Slice.PartMut.{put_mid}
use Rattle.algebra.specs.Lists.{put}
use Rattle.algebra.specs.Words.{PrimeField}
use Rattle.algebra.specs.WordLists.{low_take, elements, to_words, length_words_lem}
use Rattle.basefold.specs.Layout.{round_at}
use Rattle.layout.specs.LayoutLaws.{round_within}
use Rattle.residue.specs.declared.Residue.{Residue}
use Rattle.residue.specs.Elements.{elem}
use Rattle.steps.specs.Steps.{values, round_of, SendInput, GiveRoundInput, sent_words}

-- a part of k words from place a on: its length, and the list once it is back as ys
pub part_length : (o : List ℕ) (a k : ℕ) → a + k ≤ length o → length (take (a + k - a) (drop a o)) ≡ k
part_length o a k h = simp (length-take, length-drop) (omega arith)

pub put_part : (a k : ℕ) (o xs ys : List ℕ) → xs ≡ ys → length ys ≡ k → put_mid a (a + k - a) o xs ≡ put a ys o
put_part a k o xs ys e n =
    let size : a + k - a ≡ length ys = omega arith in
    ap₂ (λ v j. take a o ++ (v ++ drop j (drop a o))) e size ∙ ap (λ v. take a o ++ (ys ++ v)) (drop-drop (length ys) a o)

module _ (𝓕 : PrimeField) where
  -- h_(i+1), at place a, of a message of n words
  module _ (d i : ℕ) (w : Residue) (z o s : List ℕ) (𝓖 : GiveRoundInput 𝓕 d i w z (length o) s) (n a : ℕ) (p : n ≡ 2 ^ (i + 1)) (q : a ≡ round_at d (i + 1)) where
    power : n ≡ 2 ^ suc i
    power = p ∙ ap (λ k. 2 ^ k) (add-one i)

    pub round_end : a + 3 ≤ length o
    round_end = omega (arith, q, 𝓖.size, round_within d i 𝓖.level, ap (round_at d) (add-one i))

    pub message_within : n ≤ length s
    message_within = omega (arith, power, 𝓖.above.room)

    pub send_input : SendInput 𝓕 w (take (i + 1) z) (take n s) (length (take (a + 3 - a) (drop a o)))
    send_input =
        let lz : length (take (i + 1) z) ≡ i + 1 = length-take (i + 1) z ∙ omega (arith, 𝓖.point, 𝓖.level) in
        record {
          weight = 𝓖.weight;
          halves = record {
            value = record {
              size = length-take n s ∙ omega (arith, message_within) ∙ p ∙ ap (λ k. 2 ^ k) (sym lz);
              message = rw power 𝓖.above.low;
              point = low_take (i + 1) 𝓖.low;
            };
            top = omega arith;
          };
          size = part_length o a 3 round_end;
        }

    pub round_given : (xs : List ℕ) → xs ≡ to_words 𝓕 (values 𝓕 (round_of 𝓕 (elem 𝓕 w) (elements 𝓕 (take n s)) (elements 𝓕 (take (i + 1) z))))
        → put_mid a (a + 3 - a) o xs ≡ put (round_at d (suc i)) (sent_words 𝓕 i w z s) o
    round_given xs f =
        put_part a 3 o xs (sent_words 𝓕 i w z s)
        (f ∙ ap₂ (λ b j. to_words 𝓕 (values 𝓕 (round_of 𝓕 (elem 𝓕 w) (elements 𝓕 (take b s)) (elements 𝓕 (take j z))))) power (add-one i)) (length_words_lem 𝓕 _)
        ∙ ap (λ b. put b (sent_words 𝓕 i w z s) o) (q ∙ ap (round_at d) (add-one i))
