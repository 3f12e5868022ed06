-- What is printed, from what writing a line ensures.
use Rattle.std.proofs.Common.{◌≡◌, ℕ, ◌<◌, ◌≤◌, List, ◌++◌, refl, sym, ap, ◌∙◌, append-nil, append_assoc, arith, subst, inl, inr, ◌∷◌}
use Rattle.std.specs.Prelude.{◌≢◌, [], Some, None, Option, Result, Ok, Err, OnOk, OnErr, IsErrOf}
use Rattle.ot_files.specs.Causes.{Rose}
use Rattle.ot_files.specs.Output.{AppendsPrefix, appending}
use Rattle.ot_files.specs.declared.output.SinkError.{SinkError}
use Rattle.ot_files.specs.declared.output.SinkError.TheVariants.{Failed, NoMemory}
use Rattle.command_base.specs.declared.status.Status.{Status}
use Rattle.command_base.specs.declared.status.Status.TheVariants as status
use Rattle.command_base.specs.Outside.{Output}
use Rattle.command_base.specs.Printing.{FailsToPrint, IsOutputFault, Prints, ended, whole, fault_stays, fails, runs_out}

pub rose_before : (before middle after : ℕ) → before ≤ middle → Rose middle after → Rose before after
rose_before before middle after later rose = omega arith

failed : (text : List ℕ) (before after : Output) (s : Status) → AppendsPrefix before.written after.written text → Rose before.faults after.faults → Prints s text before after (ended {U = Unit {0}} s (Err Failed))
failed text before after status.FileFault prefix rose = fault_stays prefix rose refl
failed text before after status.Done prefix rose = fails prefix rose (λ e. cc)
failed text before after status.Warnings prefix rose = fails prefix rose (λ e. cc)
failed text before after status.Refused prefix rose = fails prefix rose (λ e. cc)
failed text before after status.Usage prefix rose = fails prefix rose (λ e. cc)
failed text before after status.SinkFault prefix rose = fails prefix rose (λ e. cc)
failed text before after status.NoMemory prefix rose = fails prefix rose (λ e. cc)

pub prints : (text : List ℕ) (before after : Output) (s : Status) (r : Result (Unit {0}) SinkError) → OnOk r (after.written ≡ appending before.written text) → OnErr r (AppendsPrefix before.written after.written text) → (IsErrOf r Failed → Rose before.faults after.faults) → Prints s text before after (ended s r)
prints text before after s (Ok u) all prefix rose = whole refl all
prints text before after s (Err NoMemory) all prefix rose = runs_out prefix
prints text before after s (Err Failed) all prefix rose = failed text before after s prefix (rose refl)

-- ---- where the output failed

-- what a command ends with whose text couldn't be written
pub ended_fault : (s : Status) → IsOutputFault (ended {U = Unit {0}} s (Err Failed))
ended_fault status.FileFault = inr refl
ended_fault status.Done = inl refl
ended_fault status.Warnings = inl refl
ended_fault status.Refused = inl refl
ended_fault status.Usage = inl refl
ended_fault status.SinkFault = inl refl
ended_fault status.NoMemory = inl refl

-- a count that doesn't fall, and rises only where a failure is answered, stands still where none is
pub stands_still : {T E : Type 0} (fault : E) (answer : T) (before after : ℕ) → before ≤ after → (before < after → ◌≡◌ {A = Result T E} (Ok answer) (Err fault)) → after ≡ before
stands_still {T} {E} fault answer before after later only = omega (arith, risen)
  where
    risen : before < after → ⊥
    risen less = let u : ◌≡◌ {A = Result T E} (Ok answer) (Err fault) = only less in cc

pub no_lower : (before middle : ℕ) → middle ≡ before → before ≤ middle
no_lower before middle same = omega arith

-- where the count rose behind the parts before, the part that fails is answered so
pub part_failed : (before middle after : ℕ) (s : Status) → middle ≡ before → (middle < after → ◌≡◌ {A = Result (Unit {0}) Status} (Err s) (Err status.SinkFault)) → before < after → IsOutputFault s
part_failed before middle after s same only risen =
    let less : middle < after = omega arith in
    let u : ◌≡◌ {A = Result (Unit {0}) Status} (Err s) (Err status.SinkFault) = only less in
    let e : s ≡ status.SinkFault = cc in
    inl e

-- ---- texts

pub nothing_appended : (told : Option (List ℕ)) → told ≡ appending told []
nothing_appended None = refl
nothing_appended (Some written) = ap Some (sym (append-nil written))

-- nothing was written of a text
pub nothing_sent : (told : Option (List ℕ)) (text : List ℕ) → AppendsPrefix told told text
nothing_sent told text = (text, record { sent = []; parts = refl; appended = nothing_appended told })

pub nothing_printed : (s : Status) (text : List ℕ) (before after : Output) → after ≡ before → Prints s text before after status.NoMemory
nothing_printed s text before after same =
    runs_out (text, record { sent = []; parts = refl; appended = ap (λ (o : Output). o.written) same ∙ nothing_appended before.written })

pub appended_twice : (told : Option (List ℕ)) (front sent : List ℕ) → appending (appending told front) sent ≡ appending told (front ++ sent)
appended_twice None front sent = refl
appended_twice (Some written) front sent = ap Some (append_assoc written front sent)

seam : (front sent left rest : List ℕ) → front ++ (sent ++ left) ++ rest ≡ (front ++ sent) ++ (left ++ rest)
seam [] sent left rest = append_assoc sent left rest
seam (x ∷ front) sent left rest = ap (λ xs. x ∷ xs) (seam front sent left rest)

parts_of_whole : (front part rest sent left : List ℕ) → part ≡ sent ++ left → front ++ part ++ rest ≡ (front ++ sent) ++ (left ++ rest)
parts_of_whole front part rest sent left e = subst (λ (p : List ℕ). front ++ p ++ rest ≡ (front ++ sent) ++ (left ++ rest)) (sym e) (seam front sent left rest)

-- a beginning of a part, behind the parts before it, is a beginning of the whole text
prefix_of_whole : (before middle after : Option (List ℕ)) (front part rest : List ℕ) → middle ≡ appending before front → AppendsPrefix middle after part → AppendsPrefix before after (front ++ part ++ rest)
prefix_of_whole before middle after front part rest so h = (
  h.0 ++ rest,
  record {
    sent = front ++ h.1.sent;
    parts = parts_of_whole front part rest h.1.sent h.0 h.1.parts;
    appended = h.1.appended ∙ ap (λ (told : Option (List ℕ)). appending told h.1.sent) so ∙ appended_twice before front h.1.sent;
  },
)

-- a text isn't printed whole where one of its parts isn't
pub part_unprinted : (front part rest : List ℕ) (before middle after : Output) (s : Status) → middle.written ≡ appending before.written front → before.faults ≤ middle.faults → FailsToPrint part middle after s → FailsToPrint (front ++ part ++ rest) before after s
part_unprinted front part rest before middle after status.SinkFault so later h = (prefix_of_whole before.written middle.written after.written front part rest so h.0, rose_before before.faults middle.faults after.faults later h.1)
part_unprinted front part rest before middle after status.NoMemory so later h = prefix_of_whole before.written middle.written after.written front part rest so h
part_unprinted front part rest before middle after status.Done so later h = absurd h
part_unprinted front part rest before middle after status.Warnings so later h = absurd h
part_unprinted front part rest before middle after status.Refused so later h = absurd h
part_unprinted front part rest before middle after status.Usage so later h = absurd h
part_unprinted front part rest before middle after status.FileFault so later h = absurd h

-- a text that isn't printed whole ends the command so
pub text_fails : (end : Status) (text : List ℕ) (before after : Output) (s : Status) → end ≢ status.FileFault → FailsToPrint text before after s → Prints end text before after s
text_fails end text before after status.SinkFault other h = fails h.0 h.1 other
text_fails end text before after status.NoMemory other h = runs_out h
text_fails end text before after status.Done other h = absurd h
text_fails end text before after status.Warnings other h = absurd h
text_fails end text before after status.Refused other h = absurd h
text_fails end text before after status.Usage other h = absurd h
text_fails end text before after status.FileFault other h = absurd h

-- the text ends early so where one of its parts fails
pub part_fails : (front part rest : List ℕ) (before middle after : Output) (s : Status) → middle.written ≡ appending before.written front → before.faults ≤ middle.faults → FailsToPrint part middle after s → Prints status.Done (front ++ part ++ rest) before after s
part_fails front part rest before middle after s so later h = text_fails status.Done (front ++ part ++ rest) before after s (λ e. cc) (part_unprinted front part rest before middle after s so later h)

-- and where memory runs out before a part
pub stops_short : (front rest : List ℕ) (before after : Output) → after.written ≡ appending before.written front → Prints status.Done (front ++ rest) before after status.NoMemory
stops_short front rest before after so = runs_out (rest, record { sent = front; parts = refl; appended = so })
