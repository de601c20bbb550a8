-- Encoding, writing and verifying, one after the other on the same buffers: what they leave, for every input. Definitions only. Assumes nothing.
use Rattle.std.specs.Prelude.{◌≡◌, List, ℕ, length, replicate}
use Rattle.algebra.specs.Words.{PrimeField}
use Rattle.job.specs.Outcome.{done, kept, ◌⨾◌}
use Rattle.job.specs.Sizes.{base_size}
use Rattle.base_spread.specs.LentRows.{codeword_rows}
use Rattle.encode.specs.Encoding.{judge_encoding}
use Rattle.open.specs.Writing.{judge_writing, value_word, opening_words}
use Rattle.verdict.specs.Verdicts.{numbers, numbers_of}
use Rattle.queries.specs.Queries.{judge_queries}
use Rattle.verify.specs.Verifying.{verification}
use Rattle.verdict.specs.declared.Verdict.{Verdict}

module _ (𝓕 : PrimeField) where
  -- opening and then verifying, with the block w: verdict v, opening o' and work s', which were o and s. The first refusal is the verdict, and else it
  -- is that on the opening as it is defined, with f(z)
  pub record OpenVerify (d c k : ℕ) (g t t' m z r us w o s : List ℕ) (v : Verdict) (o' s' : List ℕ) : Type 0 where
    pub verdict : numbers v ≡ numbers_of (judge_writing 𝓕 d c k g t t' m z r (length o) (length s) ⨾ verification 𝓕 d c k g t t' w z (value_word 𝓕 m z) r us (opening_words 𝓕 c k g t t' m z r))
    pub opening : o' ≡ kept (judge_writing 𝓕 d c k g t t' m z r (length o) (length s)) o (opening_words 𝓕 c k g t t' m z r)
    pub work : s' ≡ kept (judge_writing 𝓕 d c k g t t' m z r (length o) (length s)) s (replicate (length s) 0)

  -- before that, encoding: block w', which was w
  pub record CommitOpenVerify (d c k : ℕ) (g t t' m z r us w o s : List ℕ) (v : Verdict) (w' o' s' : List ℕ) : Type 0 where
    pub verdict : numbers v
        ≡ numbers_of (judge_encoding 𝓕 d c k g t t' m (length w) ⨾ judge_writing 𝓕 d c k g t t' m z r (length o) (length s)
        ⨾ verification 𝓕 d c k g t t' (codeword_rows 𝓕 d k (base_size c k) g t t' m) z (value_word 𝓕 m z) r us (opening_words 𝓕 c k g t t' m z r))
    pub block : w' ≡ kept (judge_encoding 𝓕 d c k g t t' m (length w)) w (codeword_rows 𝓕 d k (base_size c k) g t t' m)
    pub opening : o' ≡ kept (judge_encoding 𝓕 d c k g t t' m (length w) ⨾ judge_writing 𝓕 d c k g t t' m z r (length o) (length s)) o (opening_words 𝓕 c k g t t' m z r)
    pub work : s' ≡ kept (judge_encoding 𝓕 d c k g t t' m (length w) ⨾ judge_writing 𝓕 d c k g t t' m z r (length o) (length s)) s (replicate (length s) 0)

  -- no refusal is due, with a block of n words, an opening of o and a work buffer of s
  pub record NothingRefused (d c k : ℕ) (g t t' m z r us : List ℕ) (n o s : ℕ) : Type 0 where
    pub encodes : judge_encoding 𝓕 d c k g t t' m n ≡ done tt
    pub writes : judge_writing 𝓕 d c k g t t' m z r o s ≡ done tt
    pub asks : judge_queries d (base_size c k) us ≡ done tt
