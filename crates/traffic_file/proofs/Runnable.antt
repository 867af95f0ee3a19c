-- The bus of a text is one that can be run.
use Rattle.std.proofs.Common.{◌≡◌, ℕ, suc, ◌+◌, ◌^◌, ◌<◌, ◌≤◌, Bool, true, false, List, [], ◌∷◌, ◌++◌, Option, Some, None, Result, Ok, Err, refl, sym, ap, ◌∙◌, subst, inl, inr, arith, length, length-append, get_or, IfOk, IfSome}
use Rattle.std.specs.Prelude.{position, nat_le, nat_lt, if◌then◌else◌, codes}
use Rattle.std.proofs.lemmas.Bool.{cases_lt, leb-false, or_parts}
use Rattle.std.proofs.lemmas.List.Quantifiers.{position-Some}
use Rattle.std.proofs.lemmas.List.{get_or_append_left}
use Rattle.std.proofs.Math.Seq.{get_or-append_seam}
use Rattle.dmi_map.specs.Ranges.{range_of}
use Rattle.text_lines.specs.Lines.{lines, line_number}
use Rattle.dmi_map.specs.declared.ranges.TargetRange.{TargetRange}
use Rattle.traffic_file.specs.declared.Bus.{Bus}
use Rattle.traffic_file.specs.declared.BusTarget.{BusTarget}
use Rattle.traffic_file.specs.declared.BusInitiator.{BusInitiator}
use Rattle.traffic_file.specs.declared.BusLine.{BusLine}
use Rattle.text_lines.specs.declared.actions.BusAction.{BusAction}
use Rattle.text_lines.specs.declared.actions.BusAction.TheVariants.{Get}
use Rattle.text_lines.specs.declared.forms.LineForm.{LineForm}
use Rattle.text_lines.specs.declared.forms.LineForm.TheVariants as line
use Rattle.traffic_file.specs.declared.judging.SoFar.{SoFar}
use Rattle.traffic_file.specs.declared.stops.BusKind.{BusKind}
use Rattle.traffic_file.specs.declared.stops.BusKind.TheVariants as kind
use Rattle.traffic_file.specs.declared.stops.BusStop.{BusStop}
use Rattle.text_lines.specs.Words.{length_of}
use Rattle.traffic_file.specs.Traffic.{CanRun}
use Rattle.text_lines.specs.LineForms.{line_form}
use Rattle.traffic_file.specs.BusText.{is_declared, is_much, initiator_named, is_initiator, is_full, delay_fault, target_fault, initiator_fault, full_fault, access_fault, with_delay, with_target, with_initiator, with_line, with_access, with_invalidate, judged_so, judged, unless_refused, judged_from, unreadable_from, first_so_far, bus_by, bus_of}
use Rattle.text_lines.proofs.FormRanges.{IsInRanges, line_in}

-- what holds of each of a list, by its place, and of one more
each_more : {X : Type 0} (d : X) (xs : List X) (x : X) (P : ℕ → X → Type 0)
    → ((k : ℕ) → k < length xs → P k (get_or xs k d)) → P (length xs) x → (k : ℕ) → k < length (xs ++ x ∷ []) → P k (get_or (xs ++ x ∷ []) k d)
each_more d xs x P each more k below =
    let long : length (xs ++ x ∷ []) ≡ length xs + 1 = length-append xs (x ∷ []) in
    elim (cases_lt k (length xs)) [
      | inl before ↦ subst (P k) (sym (get_or_append_left xs (x ∷ []) d k before)) (each k before)
      | inr not ↦
          let last : length xs ≡ k = omega arith in
          subst (λ j. P j (get_or (xs ++ x ∷ []) j d)) last (subst (P (length xs)) (sym (get_or-append_seam xs x [] d)) more)
    ]

pub many_more : {X : Type 0} (xs : List X) (x : X) → length (xs ++ x ∷ []) ≡ length xs + 1
many_more xs x = length-append xs (x ∷ [])

-- what stands past the end of the lists
abbrev no_line : BusLine
no_line = record { line = 0; time = 0; initiator = 0; address = 0; action = Get 1 }

abbrev no_target : BusTarget
no_target = record { name = []; size = 0; latency = 0 }

abbrev no_range : TargetRange
no_range = range_of 0 0 0

-- ---- tests

no_fault : (k : BusKind) → Some k ≡ None → ⊥
no_fault k is = cc

passed : (k : BusKind) (b : Bool) (o : Option BusKind) → (if b then Some k else o) ≡ None → (b ≡ false) × (o ≡ None)
passed k true o is = absurd (no_fault k is)
passed k false o is = (refl, is)

place_within : (p : BusInitiator → Bool) (xs : List BusInitiator) (o : Option ℕ) → position p xs ≡ o → IfSome o (λ i. i < length xs)
place_within p xs None is = tt
place_within p xs (Some i) is = (position-Some p xs i (record { name = []; dmi = false }) is).0

few_of : (n : ℕ) → nat_le 256 n ≡ false → n < 256
few_of n is = leb-false 256 n is

-- ---- one line more

abbrev Runs : SoFar → Type 0
Runs s = CanRun s.bus

judged_runs : (n : ℕ) (name : List ℕ) (o : Option BusKind) (s : SoFar) → (o ≡ None → Runs s) → IfOk (judged_so n name o s) Runs
judged_runs n name None s h = h refl
judged_runs n name (Some k) s h = tt

module _ (s : SoFar) (runs : Runs s) where
  delay_runs : (delay : ℕ) → (1 ≤ delay) × (delay < 2 ^ 40) → Runs (with_delay s delay)
  delay_runs delay within = record {
    takes_time = within.0;
    delay = within.1;
    few_lines = runs.few_lines;
    few_targets = runs.few_targets;
    few_initiators = runs.few_initiators;
    times = runs.times;
    initiators = runs.initiators;
    some = runs.some;
    short = runs.short;
    latencies = runs.latencies;
    mapped = runs.mapped;
    numbered = runs.numbered;
    sized = runs.sized;
  }

  target_runs : (name : List ℕ) (low size latency : ℕ) → latency < 2 ^ 40 → length s.bus.targets < 256 → Runs (with_target s name low size latency)
  target_runs name low size latency within few =
      let more : BusTarget = record { name = name; size = size; latency = latency } in
      let ranges = s.bus.map ++ range_of low size (length s.bus.targets) ∷ [] in
      record {
        takes_time = runs.takes_time;
        delay = runs.delay;
        few_lines = runs.few_lines;
        few_targets = omega (arith, many_more s.bus.targets more);
        few_initiators = runs.few_initiators;
        times = runs.times;
        initiators = runs.initiators;
        some = runs.some;
        short = runs.short;
        latencies = each_more no_target s.bus.targets more (λ k t. t.latency < 2 ^ 40) runs.latencies within;
        mapped = many_more s.bus.map (range_of low size (length s.bus.targets)) ∙ (ap (λ n. n + 1) runs.mapped ∙ sym (many_more s.bus.targets more));
        numbered = λ t below.
            each_more no_range s.bus.map (range_of low size (length s.bus.targets)) (λ k r. r.target ≡ k)
            (λ k less. runs.numbered k (omega (arith, runs.mapped, less))) (sym runs.mapped)
            t (omega (arith, below, runs.mapped, many_more s.bus.targets more, many_more s.bus.map (range_of low size (length s.bus.targets))));
        sized = λ t below.
            each_more no_range s.bus.map (range_of low size (length s.bus.targets)) (λ k r. r.size ≡ (get_or (s.bus.targets ++ more ∷ []) k no_target).size)
            (λ k less. let there : k < length s.bus.targets = omega (arith, runs.mapped, less) in
            runs.sized k there ∙ ap (λ (x : BusTarget). x.size) (sym (get_or_append_left s.bus.targets (more ∷ []) no_target k there)))
            (subst (λ j. size ≡ (get_or (s.bus.targets ++ more ∷ []) j no_target).size) (sym runs.mapped) (ap (λ (x : BusTarget). x.size) (sym (get_or-append_seam s.bus.targets more [] no_target))))
            t (omega (arith, below, runs.mapped, many_more s.bus.targets more, many_more s.bus.map (range_of low size (length s.bus.targets))));
      }

  initiator_runs : (name : List ℕ) (dmi : Bool) → length s.bus.initiators < 256 → Runs (with_initiator s name dmi)
  initiator_runs name dmi few =
      let more : BusInitiator = record { name = name; dmi = dmi } in
      record {
        takes_time = runs.takes_time;
        delay = runs.delay;
        few_lines = runs.few_lines;
        few_targets = runs.few_targets;
        few_initiators = omega (arith, many_more s.bus.initiators more);
        times = runs.times;
        initiators = λ k below. omega (arith, runs.initiators k below, many_more s.bus.initiators more);
        some = runs.some;
        short = runs.short;
        latencies = runs.latencies;
        mapped = runs.mapped;
        numbered = runs.numbered;
        sized = runs.sized;
      }

  line_runs : (access : BusLine) → access.time < 2 ^ 40 → (1 ≤ length_of access.action) × (length_of access.action ≤ 4096) → access.initiator < length s.bus.initiators
      → length s.bus.lines < 4096 → Runs (with_line s access)
  line_runs access time within there few = record {
    takes_time = runs.takes_time;
    delay = runs.delay;
    few_lines = omega (arith, many_more s.bus.lines access);
    few_targets = runs.few_targets;
    few_initiators = runs.few_initiators;
    times = each_more no_line s.bus.lines access (λ k l. l.time < 2 ^ 40) runs.times time;
    initiators = each_more no_line s.bus.lines access (λ k l. l.initiator < length s.bus.initiators) runs.initiators there;
    some = each_more no_line s.bus.lines access (λ k l. 1 ≤ length_of l.action) runs.some within.0;
    short = each_more no_line s.bus.lines access (λ k l. length_of l.action ≤ 4096) runs.short within.1;
    latencies = runs.latencies;
    mapped = runs.mapped;
    numbered = runs.numbered;
    sized = runs.sized;
  }

  invalidate_runs : (time low high : ℕ) → Runs (with_invalidate s time low high)
  invalidate_runs time low high = record {
    takes_time = runs.takes_time;
    delay = runs.delay;
    few_lines = runs.few_lines;
    few_targets = runs.few_targets;
    few_initiators = runs.few_initiators;
    times = runs.times;
    initiators = runs.initiators;
    some = runs.some;
    short = runs.short;
    latencies = runs.latencies;
    mapped = runs.mapped;
    numbered = runs.numbered;
    sized = runs.sized;
  }

  few_targets : (name : List ℕ) (low size : ℕ) → target_fault s name low size ≡ None → length s.bus.targets < 256
  few_targets name low size none =
      let new = passed kind.DoubleName (is_declared name s.bus) _ none in
      let little = passed kind.TooMany (is_much s size) _ new.1 in
      few_of (length s.bus.targets) (or_parts (nat_le 256 (length s.bus.targets)) (nat_lt 67108864 (s.bytes + size)) little.0).0

  few_initiators : (name : List ℕ) → initiator_fault s name ≡ None → length s.bus.initiators < 256
  few_initiators name none =
      let new = passed kind.DoubleName (is_declared name s.bus) _ none in
      few_of (length s.bus.initiators) (passed kind.TooMany (nat_le 256 (length s.bus.initiators)) None new.1).0

  few_lines : full_fault s.bus ≡ None → length s.bus.lines < 4096
  few_lines none =
      let room : length s.bus.lines + length s.bus.invalidates < 4096 = leb-false 4096 (length s.bus.lines + length s.bus.invalidates) (passed kind.TooMany (is_full s.bus) None none).0 in
      omega (arith, room)

  access_runs : (n time address : ℕ) (does : BusAction) (o : Option ℕ) → IfSome o (λ i. i < length s.bus.initiators) → time < 2 ^ 40
      → (1 ≤ length_of does) × (length_of does ≤ 4096) → access_fault s.bus o ≡ None → Runs (with_access s n time o address does)
  access_runs n time address does None there early within none = runs
  access_runs n time address does (Some i) there early within none =
      line_runs (record { line = line_number n; time = time; initiator = i; address = address; action = does }) early within there (few_lines none)

  one_runs : (n : ℕ) (form : LineForm) → IsInRanges form → IfOk (judged s n form) Runs
  one_runs n line.Blank within = runs
  one_runs n line.Unreadable within = runs
  one_runs n (line.Delay delay) within = judged_runs n (codes "delay") (delay_fault s) (with_delay s delay) (λ none. delay_runs delay within)
  one_runs n (line.Target name low size latency) within =
      judged_runs n name (target_fault s name low size) (with_target s name low size latency) (λ none. target_runs name low size latency within (few_targets name low size none))
  one_runs n (line.Initiator name dmi) within =
      judged_runs n name (initiator_fault s name) (with_initiator s name dmi) (λ none. initiator_runs name dmi (few_initiators name none))
  one_runs n (line.Access time name address does) within =
      judged_runs n name (access_fault s.bus (initiator_named name s.bus)) (with_access s n time (initiator_named name s.bus) address does)
      (access_runs n time address does (initiator_named name s.bus) (place_within (is_initiator name) s.bus.initiators (initiator_named name s.bus) refl) within.0 within.1)
  one_runs n (line.Invalidate time low high) within =
      judged_runs n (codes "invalidate") (full_fault s.bus) (with_invalidate s time low high) (λ none. invalidate_runs time low high)

-- ---- all lines

then_runs : (r : Result SoFar BusStop) (rest : SoFar → Result SoFar BusStop) → IfOk r Runs → ((s : SoFar) → Runs s → IfOk (rest s) Runs) → IfOk (unless_refused r rest) Runs
then_runs (Err stop) rest h f = tt
then_runs (Ok s) rest h f = f s h

all_run : (ls : List (List ℕ)) (s : SoFar) (n : ℕ) → Runs s → IfOk (judged_from s n ls) Runs
all_run [] s n runs = runs
all_run (l ∷ ls) s n runs =
    then_runs (judged s n (line_form l)) (λ next. judged_from next (suc n) ls) (one_runs s runs n (line_form l) (line_in l)) (λ next after. all_run ls next (suc n) after)

first_runs : Runs first_so_far
first_runs = record {
  takes_time = omega arith;
  delay = omega arith;
  few_lines = omega arith;
  few_targets = omega arith;
  few_initiators = omega arith;
  times = λ k below. absurd (omega (arith, below));
  initiators = λ k below. absurd (omega (arith, below));
  some = λ k below. absurd (omega (arith, below));
  short = λ k below. absurd (omega (arith, below));
  latencies = λ t below. absurd (omega (arith, below));
  mapped = refl;
  numbered = λ t below. absurd (omega (arith, below));
  sized = λ t below. absurd (omega (arith, below));
}

by_runs : (o : Option ℕ) (r : Result SoFar BusStop) → IfOk r Runs → IfOk (bus_by o r) CanRun
by_runs (Some n) r h = tt
by_runs None (Err stop) h = tt
by_runs None (Ok s) h = h

pub bus_runs : (text : List ℕ) → IfOk (bus_of text) CanRun
bus_runs text = by_runs (unreadable_from 1 (lines text)) (judged_from first_so_far 1 (lines text)) (all_run (lines text) first_so_far 1 first_runs)

pub read_runs : (text : List ℕ) (bus : Bus) → bus_of text ≡ Ok bus → CanRun bus
read_runs text bus is = subst (λ r. IfOk r CanRun) is (bus_runs text)
