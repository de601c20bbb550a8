-- What is handed to the transform, and what is made of it. Assumes nothing.
use mathlib.Core.Path.{◌≡◌, sym, ap, ap₂, ◌∙◌}
use mathlib.Core.Bool.{true}
use mathlib.Core.List.{List, map}
use Prim.Native.Nat.{ℕ, ◌^◌}
use lib.IntN.{ℤ}
use lib.ListN.{length, replicate}
use Rattle.algebra.specs.Words.{PrimeField}
use Rattle.algebra.specs.WordLists.{Low, elements, to_words, length_elements, length_words_lem, low_words}
use Rattle.multilinear.specs.Table.{table, length_table}
use Rattle.job.specs.declared.Refusal.{Refusal}
use Rattle.std.specs.Prelude.{Ok, Err}
use Rattle.job.specs.Outcome.{refused, done, due, kept}
use Rattle.clearance.specs.Clearances.{clearance_of}
use Rattle.table_length.specs.Depth.{is_power, exponent}
use Rattle.table_length.specs.DepthLaws.{exponent_is}
use Rattle.transform.specs.Passes.{across, passes, passes_table}
use Rattle.table.specs.Job.{judge_message, table_of, ToTable as Tables}
use Rattle.transform.specs.declared.Way.TheVariants.{ToTable}

module _ (𝓕 : PrimeField) where
  open 𝓕 use {modulus as P, field as F}
  open F use {ring as K}

  -- w is a copy of the message, d its depth
  module _ {m w : List ℕ} {d : ℕ} (is : w ≡ m) (deep : d ≡ exponent (length m)) (p : is_power (length m) ≡ true) where
    size : length w ≡ 2 ^ d
    size = ap length is ∙ exponent_is _ (length m) p ∙ ap (λ n. 2 ^ n) (sym deep)

    pub message_asks : Low P m → (length w ≡ 2 ^ d) × Low P w
    message_asks l = (size, rw is l)

  -- v is the words of the table of m
  pub record Entries (m v : List ℕ) : Type 0 where
    pub many : length v ≡ length m
    pub low : Low P v
    pub are : map (clearance_of 𝓕) v ≡ table_of 𝓕 m

  pub entries : {m w : List ℕ} {d : ℕ} {v : List ℕ} → w ≡ m → d ≡ exponent (length m) → is_power (length m) ≡ true
      → v ≡ to_words 𝓕 (passes (across 𝓕 ToTable) d (elements 𝓕 w)) → Entries m v
  entries {m} {w} {d} {v} is deep p e =
      let long = size is deep p in
      let all : v ≡ to_words 𝓕 (table K d (elements 𝓕 w)) = e ∙ ap (to_words 𝓕) (passes_table 𝓕 d (elements 𝓕 w) (length_elements 𝓕 w ∙ long)) in
      record {
        many = ap length all ∙ length_words_lem 𝓕 _ ∙ length_table K d (elements 𝓕 w) ∙ sym long ∙ ap length is;
        low = rw e (low_words 𝓕 _);
        are = ap (map (clearance_of 𝓕)) (all ∙ ap₂ (λ n u. to_words 𝓕 (table K n (elements 𝓕 u))) deep is);
      }

  -- the job, done and refused
  module _ (k : ℕ) (m : List ℕ) (old : List ℤ) (work : List ℕ) where
    pub tables_done : (new : List ℤ) (left : List ℕ) → done tt ≡ judge_message 𝓕 k m (length old) (length work)
        → new ≡ table_of 𝓕 m → left ≡ replicate (length work) 0 → Tables 𝓕 k m old new work left (Ok tt)
    tables_done new left e p q = record {
      answer = e;
      clearances = p ∙ ap (λ o. kept o old (table_of 𝓕 m)) e;
      cleared = q ∙ ap (λ o. kept o work (replicate (length work) 0)) e;
    }

    pub tables_refused : (r : Refusal) → refused (due r) ≡ judge_message 𝓕 k m (length old) (length work) → Tables 𝓕 k m old old work work (Err r)
    tables_refused r e = record {
      answer = e;
      clearances = ap (λ o. kept o old (table_of 𝓕 m)) e;
      cleared = ap (λ o. kept o work (replicate (length work) 0)) e;
    }
