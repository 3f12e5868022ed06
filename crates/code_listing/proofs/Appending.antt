-- Texts that are appended one after another.
use Rattle.std.proofs.Common.{◌≡◌, List, [], ◌∷◌, ◌++◌, ℕ, ◌+◌, ◌<◌, length, take, get_or, sym, ap, ◌∙◌, subst, append-nil, append_assoc}
use Rattle.std.specs.Prelude.{Result, OnOk}
use Rattle.std.proofs.lemmas.Grind.{flat_map-append}
use Rattle.std.proofs.lemmas.List.{take_more}
use Rattle.elf_objects.specs.Elf.{Elf}
use Rattle.machine_defs.specs.declared.flow.Edge.{Edge}
use Rattle.machine_defs.specs.Program.{Program}
use Rattle.code_listing.specs.Points.{edge_text, edges_text}

-- what is appended to a text that was appended
pub appended_twice : (before between after one other : List ℕ) → between ≡ before ++ one → after ≡ between ++ other → after ≡ before ++ (one ++ other)
appended_twice before between after one other e h = h ∙ ap (λ (front : List ℕ). front ++ other) e ∙ append_assoc before one other

pub appended_on : {T E : Type 0} (result : Result T E) (before between after one other : List ℕ) → between ≡ before ++ one → OnOk result (after ≡ between ++ other) → OnOk result (after ≡ before ++ (one ++ other))
appended_on result before between after one other e h =
    subst (λ (text : List ℕ). OnOk result (after ≡ text)) (ap (λ (front : List ℕ). front ++ other) e ∙ append_assoc before one other) h

-- with one more edge
pub edges_more : (o : Elf) (p : Program) (edges : List Edge) (i : ℕ) (d : Edge) (before between after : List ℕ) → i < length edges → between ≡ before ++ edges_text o p (take i edges) → after ≡ between ++ edge_text o p (get_or edges i d) → after ≡ before ++ edges_text o p (take (i + 1) edges)
edges_more o p edges i d before between after inside so_far last =
    let more : edges_text o p (take (i + 1) edges) ≡ edges_text o p (take i edges) ++ edge_text o p (get_or edges i d) =
    ap (λ (some : List Edge). edges_text o p some) (take_more edges i d inside)
    ∙ flat_map-append (edge_text o p) (take i edges) (get_or edges i d ∷ [])
    ∙ ap (λ (line : List ℕ). edges_text o p (take i edges) ++ line) (append-nil (edge_text o p (get_or edges i d))) in
    last
    ∙ ap (λ (front : List ℕ). front ++ edge_text o p (get_or edges i d)) so_far
    ∙ append_assoc before (edges_text o p (take i edges)) (edge_text o p (get_or edges i d))
    ∙ ap (λ (text : List ℕ). before ++ text) (sym more)
