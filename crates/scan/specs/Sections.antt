-- The sections as a scan goes through them, one after another. Assumes nothing.
use Rattle.std.specs.Prelude.{ℕ, ◌<◌, ◌≤◌, ◌+◌, ◌*◌, ◌&&◌, cond, List, Option, Some, None, leb, length}
use Rattle.std.specs.Option.{option_and_then}
use Rattle.images.specs.Passes.{run_of, section_ok}

-- what the byte that a kind of record begins with, its size, and the place of its key keep to
pub record RecordLaws (kind size key : ℕ) : Type 0 where
  -- past the end stands 0
  pub told : 1 ≤ kind
  pub some : 1 ≤ size
  pub small : size ≤ 255
  pub keyed : key < size

-- where the records of kind k from p on end, if they lie within the image
abbrev pub run_end : ℕ → ℕ → List ℕ → ℕ → Option ℕ
run_end k n b p = let e = p + n * run_of k n (length b) b p in cond (leb e (length b)) (Some e) None

-- the four runs as a scan goes through them, one after another
abbrev pub runs_end : List ℕ → Option ℕ
runs_end b = option_and_then (λ p. option_and_then (λ q. option_and_then (λ t. run_end 36 11 b t) (run_end 35 12 b q)) (run_end 34 12 b p)) (run_end 33 30 b 2)

-- where the records of kind k from p on end, if they lie within the image and are laid out rightly
abbrev pub section_end : ℕ → ℕ → ℕ → List ℕ → ℕ → Option ℕ
section_end k n o b p =
    let m = run_of k n (length b) b p in
    let e = p + n * m in
    cond (leb e (length b) && section_ok k n o b p m) (Some e) None

-- where the last of the four sections behind the root ends, if each is laid out rightly
abbrev pub sections_end : List ℕ → Option ℕ
sections_end b =
    option_and_then (λ p. option_and_then (λ q. option_and_then (λ t. section_end 36 11 1 b t) (section_end 35 12 1 b q)) (section_end 34 12 2 b p))
    (section_end 33 30 1 b 2)
