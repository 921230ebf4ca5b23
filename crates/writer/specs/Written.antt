-- Records put one after another into an output, each where it fits: the output with the place behind what was put. Assumes nothing.
use Rattle.std.specs.Prelude.{cond, List, [], ◌∷◌, ℕ, ◌+◌, leb, ltb, length, Result, Ok, Err}
use Rattle.units.specs.Limits.{writer_wants}
use Rattle.units.specs.declared.Refusal.{Refusal}
use Rattle.units.specs.declared.Refusal.TheVariants.{ShortOutput}
use Rattle.records.specs.Rows.{poured}
use Rattle.writer.specs.Records.{records_in}

-- an output and a place in it
abbrev pub Place : Type 0
Place = List ℕ × ℕ

unfoldable pub put_in : Place → List ℕ → Place
put_in o bytes = cond {A = Place} (leb (o.1 + length bytes) (length o.0)) (poured o.0 o.1 bytes, o.1 + length bytes) o

abbrev pub wrote : Place → List (List ℕ) → Place
wrote o [] = o
wrote o (r ∷ rs) = wrote (put_in o r) rs

abbrev pub length_of : Place → List ℕ × Result ℕ Refusal
length_of o = (o.0, Ok o.1)

-- refusal 20, "the output has under 8,192 bytes": nothing is written
unfoldable pub write_in : List ℕ → List ℕ → List ℕ → List ℕ → List ℕ × Result ℕ Refusal
write_in tree counts hold out =
    cond {A = List ℕ × Result ℕ Refusal} (ltb (length out) writer_wants) (out, Err ShortOutput) (length_of (wrote (out, 0) (records_in tree counts hold)))
