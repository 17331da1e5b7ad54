-- The files of a stored stream: SiftNamesValue.
use Rattle.std.specs.Prelude.{◌≢◌, ℕ, List, [], ◌∷◌}
use Rattle.cf_sift.specs.declared.names.SiftNames.{SiftNames}

-- the names of the stream that is read, and of the three outputs
pub record SiftNamesValue : Type 0 where
  pub stream : List ℕ
  pub out : List ℕ
  pub replies : List ℕ
  pub log : List ℕ

-- what a contract sees of the names of the files
abbrev pub sift_names_value : SiftNames → SiftNamesValue
sift_names_value names = record { stream = names.stream.now; out = names.out.now; replies = names.replies.now; log = names.log.now }

-- no two of the four files are the same
pub record AreApart (names : SiftNamesValue) : Type 0 where
  pub stream_out : names.stream ≢ names.out
  pub stream_replies : names.stream ≢ names.replies
  pub stream_log : names.stream ≢ names.log
  pub out_replies : names.out ≢ names.replies
  pub out_log : names.out ≢ names.log
  pub replies_log : names.replies ≢ names.log

-- the outputs in their order
abbrev pub sift_output_names : SiftNamesValue → List (List ℕ)
sift_output_names names = names.out ∷ names.replies ∷ names.log ∷ []
