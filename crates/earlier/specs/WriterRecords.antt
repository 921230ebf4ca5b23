-- Definitions of writer that its laws in proofs/WriterLoops speak of. Assumes nothing.
use Rattle.std.specs.Prelude.{cond, List, map, ℕ, eqb}
use Rattle.rules.specs.Tables.{range}
use Rattle.writer.specs.Records.{node_of, branch_of, slot_of, input_of}

unfoldable pub record_of : List ℕ → List ℕ → List ℕ → ℕ → ℕ → List ℕ
record_of tree counts hold kind k =
    cond (eqb kind 33) (node_of tree counts k) (cond (eqb kind 34) (branch_of counts hold k) (cond (eqb kind 35) (slot_of hold k) (input_of hold k)))

-- n of a kind, from `first` on
unfoldable pub records_of : List ℕ → List ℕ → List ℕ → ℕ → ℕ → ℕ → List (List ℕ)
records_of tree counts hold kind first n = map (record_of tree counts hold kind) (range n first)
