-- What is noted of an instance tells what its processes use in statements.
use Rattle.std.proofs.Common.{◌≡◌, ◌<◌, ◌≤◌, ◌+◌, ◌⊎◌, inl, inr, ℕ, true, List, length, min, Option, Some, None, refl, sym, ap, ◌∙◌, subst, arith}
use Rattle.std.specs.Prelude.{slice_get, unwrap_or, option_and_then, Contains}
use Rattle.std.specs.List.{flat_map}
use Rattle.std.proofs.lemmas.Bool.{cases_lt}
use Rattle.std.proofs.lemmas.Option.{slice_get_past, slice_get_within}
use Rattle.flat_design.specs.Code.{Arena, Statement, arena_of}
use Rattle.flat_design.specs.Reach as reach
use Rattle.flat_design.specs.Reach.{IsIn, Reached}
use Rattle.flat_design.specs.Denotes.{denoted_at}
use Rattle.flat_design.specs.declared.design.Denoted.TheVariants as denoted
use Rattle.flat_design.specs.declared.design.InstancePart.{InstancePart}
use Rattle.flat_design.specs.declared.design.ProcessPart.{ProcessPart}
use Rattle.flat_design.specs.declared.design.Design.{Design}
use Rattle.order_free.specs.Uses.{deeds_of, uses_of_deed, uses_of, uses_of_event, kept_under, written_to, read_from, channels_under, events_under}
use Rattle.order_free.specs.Blocks.{ArePartsOf}
use Rattle.order_free.specs.declared.uses.Deed.{Deed}
use Rattle.order_free.specs.declared.uses.Deed.TheVariants as deed
use Rattle.order_free.specs.declared.uses.Use.{Use}
use Rattle.order_free.specs.declared.uses.Use.TheVariants as used
use Rattle.order_free.specs.declared.blocks.BlockPart.{BlockPart}
use Rattle.order_free.specs.Free as free
use Rattle.order_free.specs.Free.{Uses}
use Rattle.order_free.specs.Users.{is_within, Shows}
use Rattle.order_free.specs.Tables.{users_at, claim, claims, Claim, Took, deeds_in, uses_in, claims_in, uses_of_events}
use Rattle.order_free.specs.Spreading.{label_at, root, ComesTo, AreLabels}
use Rattle.order_free.specs.Spreading as spreading
use Rattle.order_free.specs.Roots.{home_of, AreRootsOf, Reaches, TellsSensitivity, TellsHomes, Tells}
use Rattle.order_free.specs.declared.users.Users.{Users}
use Rattle.order_free.specs.declared.users.Users.TheVariants as users
use Rattle.order_free.specs.declared.roots.Root.{Root}
use Rattle.order_free.specs.declared.tables.Tables.{Tables}
use Rattle.order_free.proofs.Elements.{no_element, in_flat_map, flat_map_in, in_map, map_in}
use Rattle.order_free.proofs.Within.{within_along, shows_more}
use Rattle.order_free.proofs.Taking.{took_grows, took_told, took_shown}
use Rattle.order_free.proofs.Coming.{found_in, stands_in, part_at, block_within, comes_reaches, reaches_comes}

-- in an instance that there is not no name stands for anything

nowhere : (d : Design) (home n : ℕ) → length d.instances ≤ home → denoted_at d home n ≡ denoted_at d (length d.instances) n
nowhere d home n past =
    let at : (h : ℕ) → length d.instances ≤ h → slice_get d.instances h ≡ None = λ h k. slice_get_past d.instances h k in
    ap (λ (o : Option InstancePart). unwrap_or (option_and_then (λ (i : InstancePart). slice_get i.names n) o) denoted.Nothing)
    (at home past ∙ sym (at (length d.instances) (omega arith)))

same_names_at : (d : Design) (home n : ℕ) → (home < length d.instances) ⊎ (length d.instances ≤ home) → denoted_at d home n ≡ denoted_at d (min home (length d.instances)) n
same_names_at d home n (inl below) = ap (λ h. denoted_at d h n) (let e : home ≡ min home (length d.instances) = omega (arith, below) in e)
same_names_at d home n (inr past) = nowhere d home n past ∙ ap (λ h. denoted_at d h n) (let e : length d.instances ≡ min home (length d.instances) = omega (arith, past) in e)

same_names : (d : Design) (home n : ℕ) → denoted_at d home n ≡ denoted_at d (min home (length d.instances)) n
same_names d home n = same_names_at d home n (cases_lt home (length d.instances))

same_uses : (d : Design) (home : ℕ) (e : Deed) → uses_of_deed d home e ≡ uses_of_deed d (min home (length d.instances)) e
same_uses d home deed.Unfit = refl
same_uses d home deed.Watches = refl
same_uses d home deed.Quantum = refl
same_uses d home (deed.Keeps n) = ap kept_under (same_names d home n)
same_uses d home (deed.Writes n) = ap (λ x. flat_map written_to (channels_under d x)) (same_names d home n)
same_uses d home (deed.Reads n) = ap (λ x. flat_map read_from (channels_under d x)) (same_names d home n)
same_uses d home (deed.Notifies n) = ap (events_under (λ e. used.Notifies e)) (same_names d home n)
same_uses d home (deed.Cancels n) = ap (events_under (λ e. used.Cancels e)) (same_names d home n)

module _ (d : Design) (home : ℕ) (parts : List BlockPart) (are : ArePartsOf (arena_of d.code) parts) where
  abbrev a : Arena
  a = arena_of d.code

  -- a use of a block is one of a statement in it
  use_there : (b : ℕ) (u : Use) (o : Option BlockPart) → slice_get parts b ≡ o → Contains (flat_map (uses_of_deed d home) (deeds_in o)) u
      → (s : Statement) × IsIn a b s × Contains (flat_map (uses_of_deed d home) (deeds_of s)) u
  use_there b u None is h = absurd (no_element u h)
  use_there b u (Some part) is h =
      let w = in_flat_map (uses_of_deed d home) part.deeds u h in
      let v = found_in a b deeds_of w.0 (subst (λ es. Contains es w.0) (are.each b part is).deeds w.1) in
      (v.0, v.1, flat_map_in (uses_of_deed d home) (deeds_of v.0) w.0 u v.2 w.2)

  use_from : (b : ℕ) (u : Use) → Contains (uses_in d home parts b) u → (s : Statement) × IsIn a b s × Contains (uses_of d home s) u
  use_from b u h = use_there b u (slice_get parts b) refl h

  use_to : (b : ℕ) (s : Statement) (u : Use) → IsIn a b s → Contains (uses_of d home s) u → Contains (uses_in d home parts b) u
  use_to b s u at h =
      let w = in_flat_map (uses_of_deed d home) (deeds_of s) u h in
      let part = part_at a parts are b s at in
      subst (λ o. Contains (flat_map (uses_of_deed d home) (deeds_in o)) u) (sym part.1)
      (flat_map_in (uses_of_deed d home) part.0.deeds w.0 u (subst (λ es. Contains es w.0) (sym (are.each b part.0 part.1).deeds) (stands_in a b deeds_of w.0 s at w.1)) w.2)

  module _ (roots : List Root) (begun : AreRootsOf d home roots) (labels : List Users) (listing : List ℕ) (spread : AreLabels parts roots labels listing) where
    -- what a statement uses in the instance of a process
    at_home : (part : ProcessPart) → home_of d part ≡ home → (s : Statement) (u : Use) → Contains (uses_of d home s) u → Contains (uses_of d part.home s) u
    at_home part there s u h =
        let w = in_flat_map (uses_of_deed d home) (deeds_of s) u h in
        flat_map_in (uses_of_deed d part.home) (deeds_of s) w.0 u w.1
        (subst (λ us. Contains us u) (ap (λ k. uses_of_deed d k w.0) (sym there) ∙ sym (same_uses d part.home w.0)) w.2)

    from_home : (part : ProcessPart) → home_of d part ≡ home → (s : Statement) (u : Use) → Contains (uses_of d part.home s) u → Contains (uses_of d home s) u
    from_home part there s u h =
        let w = in_flat_map (uses_of_deed d part.home) (deeds_of s) u h in
        flat_map_in (uses_of_deed d home) (deeds_of s) w.0 u w.1
        (subst (λ us. Contains us u) (same_uses d part.home w.0 ∙ ap (λ k. uses_of_deed d k w.0) there) w.2)

    -- a process that comes to a block uses what the block uses
    comer_uses : (b p : ℕ) (u : Use) → Contains (uses_in d home parts b) u → ComesTo parts roots p b → Uses d p u
    comer_uses b p u h c =
        let w = use_from b u h in
        let k = comes_reaches a parts are roots p c w.0 (reach.here b w.0 (record { block = b; inside = reach.itself b; stands = w.1 })) in
        let r = begun.are (root p k.0) k.1 in
        free.by_statement r.part r.body w.0 r.found r.code (subst (λ j. Reached a j w.0) (sym r.block) k.2) (at_home r.part r.there w.0 u w.2)

    claim_shown : (c : Claim) → Contains (claims_in d home parts labels listing) c → Shows (λ p. Uses d p c.what) c.users
    claim_shown c h =
        let w = in_flat_map (λ b. claims (label_at labels b) (uses_in d home parts b)) listing c h in
        let v = in_map (claim (label_at labels w.0)) (uses_in d home parts w.0) c w.2 in
        let w_use = use_from w.0 v.0 v.1 in
        let below : w.0 < length parts = subst (λ n. w.0 < n) (sym are.many) (block_within a w.0 w_use.0 w_use.1) in
        subst (λ (e : Claim). Shows (λ p. Uses d p e.what) e.users) v.2
        (shows_more (λ p. ComesTo parts roots p w.0) (λ p. Uses d p v.0) (λ p k. comer_uses w.0 p v.0 v.1 k) (label_at labels w.0) (spread.shown w.0 below))

    -- what a process of the instance uses is told
    module _ (old new : Tables) (took : Took (claims_in d home parts labels listing) old new) where
      use_told : (p : ℕ) (u : Use) (part : ProcessPart) → home_of d part ≡ home → Reaches d p u part → is_within (users.One p) (users_at new u) ≡ true
      use_told p u part there r =
          let begins = begun.all p r.body.block (record { part = part; body = r.body; found = r.found; code = r.code; there = there; block = refl }) in
          let w = reaches_comes a parts are roots p r.reached (spreading.begins r.body.block begins) in
          let below : w.0 < length parts = subst (λ n. w.0 < n) (sym are.many) (block_within a w.0 r.statement w.2) in
          let come = spread.come p w.0 below w.1 in
          let in_block = use_to w.0 r.statement u w.2 (from_home part there r.statement u r.used) in
          let claimed : Contains (claims_in d home parts labels listing) (claim (label_at labels w.0) u) =
          flat_map_in (λ b. claims (label_at labels b) (uses_in d home parts b)) listing w.0 (claim (label_at labels w.0) u) come.1 (map_in (claim (label_at labels w.0)) (uses_in d home parts w.0) u in_block) in
          within_along (users.One p) (label_at labels w.0) (users_at new u) come.0 (took_told took (label_at labels w.0) u claimed)

      more_told : TellsSensitivity d (length d.processes) old → TellsSensitivity d (length d.processes) new
      more_told t = record {
        shown = took_shown (λ u p. Uses d p u) took t.shown claim_shown;
        told = λ p part below found u h. within_along (users.One p) (users_at old u) (users_at new u) (t.told p part below found u h) (took_grows took u);
      }

      told_at : TellsHomes d home old → (p : ℕ) (u : Use) (part : ProcessPart) → home_of d part < home + 1 → Reaches d p u part → (home_of d part < home) ⊎ (home ≤ home_of d part) → is_within (users.One p) (users_at new u) ≡ true
      told_at t p u part within r (inl below) = within_along (users.One p) (users_at old u) (users_at new u) (t.told p u part below r) (took_grows took u)
      told_at t p u part within r (inr not) = use_told p u part (let e : home_of d part ≡ home = omega (arith, within, not) in e) r

      pub home_told : TellsHomes d home old → TellsHomes d (home + 1) new
      home_told t = record {
        sensitivity = more_told t.sensitivity;
        told = λ p u part within r. told_at t p u part within r (cases_lt (home_of d part) home);
      }

-- the static sensitivity of one process more
module _ (d : Design) (p : ℕ) (part : ProcessPart) (found : slice_get d.processes p ≡ Some part) (old new : Tables) (took : Took (claims (users.One p) (uses_of_events part.sensitive)) old new) where
  event_shown : (c : Claim) → Contains (claims (users.One p) (uses_of_events part.sensitive)) c → Shows (λ q. Uses d q c.what) c.users
  event_shown c h =
      let w = in_map (claim (users.One p)) (uses_of_events part.sensitive) c h in
      let v = in_flat_map uses_of_event part.sensitive w.0 w.1 in
      subst (λ (e : Claim). Shows (λ q. Uses d q e.what) e.users) w.2 (free.by_sensitivity part v.0 found v.1 v.2)

  same_part : (q : ProcessPart) → slice_get d.processes p ≡ Some q → q ≡ part
  same_part q is = let e : Some q ≡ Some part = sym is ∙ found in cc

  event_told : (q : ℕ) (other : ProcessPart) → (q < p) ⊎ (p ≤ q) → q < p + 1 → TellsSensitivity d p old → slice_get d.processes q ≡ Some other → (u : Use) → Contains (uses_of_events other.sensitive) u
      → is_within (users.One q) (users_at new u) ≡ true
  event_told q other (inl below) within t at u h = within_along (users.One q) (users_at old u) (users_at new u) (t.told q other below at u h) (took_grows took u)
  event_told q other (inr not) within t at u h =
      let same : q ≡ p = omega (arith, within, not) in
      let here : Contains (uses_of_events part.sensitive) u = subst (λ (o : ProcessPart). Contains (uses_of_events o.sensitive) u) (same_part other (subst (λ k. slice_get d.processes k ≡ Some other) same at)) h in
      subst (λ k. is_within (users.One k) (users_at new u) ≡ true) (sym same) (took_told took (users.One p) u (map_in (claim (users.One p)) (uses_of_events part.sensitive) u here))

  pub sensitivity_told : TellsSensitivity d p old → TellsSensitivity d (p + 1) new
  sensitivity_told t = record {
    shown = took_shown (λ u q. Uses d q u) took t.shown event_shown;
    told = λ q other within at u h. event_told q other (cases_lt q p) within t at u h;
  }

pub none_told : (d : Design) (t : Tables) → ((u : Use) → users_at t u ≡ users.Nobody) → TellsSensitivity d 0 t
none_told d t none = record {
  shown = λ u. subst (Shows (λ p. Uses d p u)) (sym (none u)) tt;
  told = λ p part below found u h. absurd (let b : p < 0 = below in omega (arith, b));
}

pub no_home_told : (d : Design) (t : Tables) → TellsSensitivity d (length d.processes) t → TellsHomes d 0 t
no_home_told d t s = record { sensitivity = s; told = λ p u part below r. absurd (let b : home_of d part < 0 = below in omega (arith, b)) }

-- after all instances everything is told
all_used : (d : Design) (t : Tables) → TellsHomes d (length d.instances + 1) t → (p : ℕ) (u : Use) → Uses d p u → is_within (users.One p) (users_at t u) ≡ true
all_used d t h p u (free.by_statement part b s found code reached k) =
    h.told p u part (let n = length d.instances in let m = part.home in omega arith) (record { body = b; statement = s; found = found; code = code; reached = reached; used = k })
all_used d t h p u (free.by_sensitivity part e found at k) =
    h.sensitivity.told p part (slice_get_within d.processes p part found) found u (flat_map_in uses_of_event part.sensitive e u at k)

pub all_told : (d : Design) (t : Tables) → TellsHomes d (length d.instances + 1) t → Tells d t
all_told d t h = record { shown = h.sensitivity.shown; told = all_used d t h }
