-- Files and outputs that are kept in memory.
use Rattle.std.specs.Prelude.{ℕ, Bool, true, not, ◌&&◌, List, [], ◌∷◌, map, String, Vec, string_bytes, bytes_eq, if◌then◌else◌, ◌==◌, refl}
use Rattle.std.specs.List.{list_any}
use Rattle.std.specs.FinMap.{from_entries, code}
use Rattle.std.specs.Coded.{Coded, code_by, coded×, coded_ℕ, coded_list}
use Rattle.std.specs.declared.alloc.Global.{Global}
use Rattle.ot_files.specs.Causes.{raised}
use Rattle.ot_files.specs.Content.{Content}

-- a name and what it holds, as they are stored
abbrev pub Entry : Type 0
Entry = String Global × Vec ℕ Global

-- the names of the entries, in their order
abbrev pub names_of : List Entry → List (List ℕ)
names_of entries = map (λ entry. string_bytes entry.0) entries

-- no name stands twice
abbrev pub names_differ : List (List ℕ) → Bool
names_differ [] = true
names_differ (name ∷ names) = not (list_any (bytes_eq name) names) && names_differ names

-- the content of the entries
abbrev pub content_of : List Entry → Content
content_of entries = from_entries (map (λ entry. (string_bytes entry.0, entry.1.items)) entries)

abbrev pub content_code : Coded Content
content_code = code (coded_list coded_ℕ) (coded_list coded_ℕ)

-- the numbers of the calls that fail, how many calls there were, and how many of them failed
pub record CallPlan : Type 0 where
  pub failing : List ℕ
  pub calls : ℕ
  pub faults : ℕ

-- the next call fails
abbrev pub fails_now : CallPlan → Bool
fails_now plan = list_any (λ call. call == plan.calls) plan.failing

-- the plan after the next call
abbrev pub after_call : CallPlan → CallPlan
after_call plan = record { failing = plan.failing; calls = raised plan.calls; faults = if fails_now plan then raised plan.faults else plan.faults }

abbrev pub plan_code : Coded CallPlan
plan_code =
    code_by (List ℕ × (ℕ × ℕ)) (coded× (coded_list coded_ℕ) (coded× coded_ℕ coded_ℕ)) (λ p. (p.failing, (p.calls, p.faults))) (λ p. record { failing = p.0; calls = p.1.0; faults = p.1.1 }) (λ _. refl)

-- files in memory some of whose calls fail
pub record PlannedFiles : Type 0 where
  pub held : Content
  pub plan : CallPlan

abbrev pub planned_files_code : Coded PlannedFiles
planned_files_code =
    code_by (Content × CallPlan) (coded× content_code plan_code) (λ s. (s.held, s.plan)) (λ p. record { held = p.0; plan = p.1 }) (λ _. refl)

-- what was written to an output in memory, and how many bytes it takes at once
pub record MemoryOutput : Type 0 where
  pub most : ℕ
  pub written : List ℕ

abbrev pub memory_output_code : Coded MemoryOutput
memory_output_code =
    code_by (ℕ × List ℕ) (coded× coded_ℕ (coded_list coded_ℕ)) (λ s. (s.most, s.written)) (λ p. record { most = p.0; written = p.1 }) (λ _. refl)

-- an output in memory some of whose calls fail
pub record PlannedOutput : Type 0 where
  pub output : MemoryOutput
  pub plan : CallPlan

abbrev pub planned_output_code : Coded PlannedOutput
planned_output_code =
    code_by (MemoryOutput × CallPlan) (coded× memory_output_code plan_code) (λ s. (s.output, s.plan)) (λ p. record { output = p.0; plan = p.1 }) (λ _. refl)
