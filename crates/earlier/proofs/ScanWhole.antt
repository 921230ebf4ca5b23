-- Laws of scan for a question that src/ no longer asks: the four sections one after another are the lines of the layout.
use Rattle.std.proofs.Common.{◌≡◌, ℕ, Bool, true, false, ◌&&◌, cond, List, Option, Some, None, eqb, leb, length, get_or, Fits, w8, refl, ap, ◌∙◌, arith}
use Rattle.std.specs.Option.{option_eq, option_and_then}
use Rattle.images.specs.Passes.{section_ok, n33, p34, n34, p35, n35, p36, n36, end, layout_at}
use Rattle.images.proofs.Laying.{leb_yes, laid_by}
use Rattle.rules.specs.Loads.{laid, cut}
use Rattle.ways.proofs.Tests.{eq→T}
use Rattle.std.proofs.Math.Dec.{eqb→eq}
use Rattle.scan.specs.Sections.{section_end, sections_end}

-- a section, and what is asked of the place behind it
go_on : (t : Bool) (e l : ℕ) (f : ℕ → Option ℕ) → option_eq eqb (option_and_then f (cond t (Some e) None)) (Some l) ≡ (t && option_eq eqb (f e) (Some l))
go_on true e l f = refl
go_on false e l f = refl

go_out : (t : Bool) (e l : ℕ) → option_eq eqb (cond t (Some e) None) (Some l) ≡ (t && eqb e l)
go_out true e l = refl
go_out false e l = refl

-- each section's two tests in turn, or the ends' tests first
order : (t1 s1 t2 s2 t3 s3 t4 s4 x : Bool) → (x ≡ true → t4 ≡ true)
    → ((t1 && s1) && ((t2 && s2) && ((t3 && s3) && ((t4 && s4) && x)))) ≡ (t1 && (t2 && (t3 && (x && (s1 && (s2 && (s3 && (s4 && true))))))))
order t1 s1 t2 s2 t3 s3 t4 s4 x h = grind arith

whole : (b : List ℕ) → (leb 2 (length b) && (eqb (get_or b 0 0) 32 && option_eq eqb (sections_end b) (Some (length b)))) ≡ layout_at b
unfolding layout_at
whole b =
    let l : ℕ = length b in
    let s1 : Bool = section_ok 33 30 1 b 2 (n33 b) in
    let s2 : Bool = section_ok 34 12 2 b (p34 b) (n34 b) in
    let s3 : Bool = section_ok 35 12 1 b (p35 b) (n35 b) in
    let s4 : Bool = section_ok 36 11 1 b (p36 b) (n36 b) in
    let t1 : Bool = leb (p34 b) l in
    let t2 : Bool = leb (p35 b) l in
    let t3 : Bool = leb (p36 b) l in
    let t4 : Bool = leb (end b) l in
    let last : ℕ → Option ℕ = section_end 36 11 1 b in
    let third : ℕ → Option ℕ = λ q. option_and_then last (section_end 35 12 1 b q) in
    let second : ℕ → Option ℕ = λ p. option_and_then third (section_end 34 12 2 b p) in
    let e : option_eq eqb (sections_end b) (Some l) ≡ ((t1 && s1) && ((t2 && s2) && ((t3 && s3) && ((t4 && s4) && eqb (end b) l)))) =
    go_on (t1 && s1) (p34 b) l second
    ∙ ap (λ x. (t1 && s1) && x) (go_on (t2 && s2) (p35 b) l third)
    ∙ ap (λ x. (t1 && s1) && ((t2 && s2) && x)) (go_on (t3 && s3) (p36 b) l last)
    ∙ ap (λ x. (t1 && s1) && ((t2 && s2) && ((t3 && s3) && x))) (go_out (t4 && s4) (end b) l) in
    ap (λ x. leb 2 l && (eqb (get_or b 0 0) 32 && x))
    (e ∙ order t1 s1 t2 s2 t3 s3 t4 s4 (eqb (end b) l) (λ q. let z : end b ≡ l = eqb→eq (end b) l (eq→T (eqb (end b) l) q) in leb_yes (end b) l (omega arith)))

-- of bytes: the program's answer is document 01's line 21
pub scanned : (b : List ℕ) (x : Bool) → ((i : ℕ) → Fits w8 (get_or b i 0)) → x ≡ (leb 2 (length b) && (eqb (get_or b 0 0) 32 && option_eq eqb (sections_end b) (Some (length b)))) → x ≡ laid b (cut b)
scanned b x bytes e = laid_by x b (λ k. omega (arith, bytes k)) (e ∙ whole b)
