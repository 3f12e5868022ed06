-- What of a line is written, from one write to the next.
use Rattle.std.proofs.Common.{◌≡◌, ℕ, List, [], ◌++◌, length, take, drop, Option, None, Some, refl, sym, ap, ◌∙◌, append_assoc, append-nil, take-append-drop, length-drop, take_all, subst, arith, ◌-◌}
use Rattle.ot_files.specs.Output.{appending, Sends}

appending-nil : (told : Option (List ℕ)) → told ≡ appending told []
appending-nil None = refl
appending-nil (Some written) = ap Some (sym (append-nil written))

appending-append : (told : Option (List ℕ)) (xs ys : List ℕ) → appending (appending told xs) ys ≡ appending told (xs ++ ys)
appending-append None xs ys = refl
appending-append (Some written) xs ys = ap Some (append_assoc written xs ys)

-- before the first write
pub sends_nothing : (told : Option (List ℕ)) (line : List ℕ) → Sends told told line line
sends_nothing told line = record { sent = []; parts = refl; appended = appending-nil told }

-- after a write of the first n bytes of what was left
pub sends_more : {before now after : Option (List ℕ)} {line left : List ℕ} (n : ℕ) → Sends before now line left → after ≡ appending now (take n left) → Sends before after line (drop n left)
sends_more {before} {now} {after} {line} {left} n h e =
    record {
      sent = h.sent ++ take n left;
      parts = h.parts ∙ ap (λ xs. h.sent ++ xs) (sym (take-append-drop n left)) ∙ sym (append_assoc h.sent (take n left) (drop n left));
      appended = e ∙ ap (λ told. appending told (take n left)) h.appended ∙ appending-append before h.sent (take n left);
    }

-- the same of what is left as a slice has it
pub sends_slice : {before now after : Option (List ℕ)} {line left : List ℕ} (n : ℕ) → Sends before now line left → after ≡ appending now (take n left) → Sends before after line (take (length left - n) (drop n left))
sends_slice {before} {now} {after} {line} {left} n h e =
    subst (Sends before after line) (sym (take_all (length left - n) (drop n left) (omega (arith, length-drop n left)))) (sends_more n h e)

-- after the last write
pub sends_all : {before now : Option (List ℕ)} {line left : List ℕ} → Sends before now line left → left ≡ [] → now ≡ appending before line
sends_all {before} {now} {line} h e = h.appended ∙ ap (appending before) (sym (h.parts ∙ ap (λ xs. h.sent ++ xs) e ∙ append-nil h.sent))
