-- The listing of a program, point by point.
use Rattle.std.proofs.Common.{◌≡◌, ℕ, zero, suc, ◌+◌, ◌<◌, ◌≤◌, List, [], ◌∷◌, ◌++◌, refl, sym, ap, ◌∙◌, subst, inl, inr, append-nil, append_assoc, arith}
use Rattle.std.specs.Prelude.{◌⊎◌, Option}
use Rattle.std.specs.List.{flat_map}
use Rattle.std.proofs.lemmas.Grind.{flat_map-append}
use Rattle.std.proofs.lemmas.Bool.{cases_lt}
use Rattle.ot_files.specs.Output.{appending}
use Rattle.machine_defs.specs.Program.{below}
use Rattle.command_base.specs.Outside.{Output}
use Rattle.command_base.specs.Printing.{FailsToPrint, Prints, whole}
use Rattle.command_base.specs.declared.status.Status.{Status}
use Rattle.command_base.specs.declared.status.Status.TheVariants as status
use Rattle.command_base.proofs.PrintLemmas.{appended_twice, part_fails}

-- what a function of numbers gives of those below n
abbrev texts_below : (ℕ → List ℕ) → ℕ → List ℕ
texts_below f n = flat_map f (below n)

one_more : (f : ℕ → List ℕ) (n : ℕ) → texts_below f (suc n) ≡ texts_below f n ++ f n
one_more f n = flat_map-append f (below n) (n ∷ []) ∙ ap (λ (text : List ℕ). texts_below f n ++ text) (append-nil (f n))

next_of : (n : ℕ) → n + 1 ≡ suc n
next_of n = omega arith

more : (f : ℕ → List ℕ) (n : ℕ) → texts_below f (n + 1) ≡ texts_below f n ++ f n
more f n = ap (λ (k : ℕ). texts_below f k) (next_of n) ∙ one_more f n

lower_or_last : (n c : ℕ) → n < suc c → (n < c) ⊎ (n ≡ c)
lower_or_last n c less = elim (cases_lt n c) [ inl lower ↦ inl lower | inr upper ↦ inr (omega arith) ]

-- those before n, that of n, and the rest
around : (f : ℕ → List ℕ) (n count : ℕ) → n < count → (rest : List ℕ) × (texts_below f count ≡ texts_below f n ++ f n ++ rest)
around f n zero less = absurd (omega arith)
around f n (suc c) less = elim (lower_or_last n c less) [
  | inl lower ↦
      let before = around f n c lower in
      (before.0 ++ f c, one_more f c ∙ ap (λ (text : List ℕ). text ++ f c) before.1 ∙ append_assoc (texts_below f n ++ f n) before.0 (f c))
  | inr same ↦
      ([], one_more f c ∙ subst (λ (k : ℕ). texts_below f k ++ f k ≡ texts_below f n ++ f n) same refl ∙ sym (append-nil (texts_below f n ++ f n)))
]

pub point_fails : (f : ℕ → List ℕ) (n count : ℕ) (before middle after : Output) (s : Status) → n < count → middle.written ≡ appending before.written (flat_map f (below n)) → before.faults ≤ middle.faults → FailsToPrint (f n) middle after s → Prints status.Done (flat_map f (below count)) before after s
point_fails f n count before middle after s less so later h =
    let all = around f n count less in
    subst (λ (text : List ℕ). Prints status.Done text before after s) (sym all.1) (part_fails (texts_below f n) (f n) all.0 before middle after s so later h)

pub point_printed : (f : ℕ → List ℕ) (n : ℕ) (before middle after : Option (List ℕ)) → middle ≡ appending before (flat_map f (below n)) → after ≡ appending middle (f n) → after ≡ appending before (flat_map f (below (n + 1)))
point_printed f n before middle after so last =
    last
    ∙ ap (λ (told : Option (List ℕ)). appending told (f n)) so
    ∙ appended_twice before (texts_below f n) (f n)
    ∙ ap (λ (text : List ℕ). appending before text) (sym (more f n))

pub all_printed : (f : ℕ → List ℕ) (n count : ℕ) (before after : Output) → n ≡ count → after.written ≡ appending before.written (flat_map f (below n)) → Prints status.Done (flat_map f (below count)) before after status.Done
all_printed f n count before after same so = whole refl (so ∙ ap (λ (k : ℕ). appending before.written (texts_below f k)) same)
