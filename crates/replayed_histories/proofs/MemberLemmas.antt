-- Members that an entry moves, in what the journal leaves and in the library alike: what both show of them.
use Rattle.std.proofs.Common.{◌≡◌, ℕ, Bool, true, false, cond, Some, List, [], ◌∷◌, map, refl, sym, ap, ◌∙◌}
use Rattle.std.specs.List.{AllByRecursion, filter}
use Rattle.std.specs.Option.{is_some}
use Rattle.std.specs.Str.{bytes_eq}
use Rattle.journal_replay.specs.Standing.{HeldMember}
use Rattle.library_model.specs.Named.{Named, named, same_name}
use Rattle.library_steps.specs.State.{FileState, MemberStatus}
use Rattle.replayed_histories.specs.Shown.{ShownFile, ShownMember, ShowsMembers, file_shown, held_shown, is_held_in, memberless, status_shown}

-- each member's status changed
abbrev pub statuses_changed : (MemberStatus → MemberStatus) → List ℕ × FileState → List ℕ × FileState
statuses_changed g entry = (entry.0, record entry.1 { members = map (λ (member : List ℕ × MemberStatus). (member.0, g member.1)) entry.1.members })

module _ (f : HeldMember → HeldMember) (g : MemberStatus → MemberStatus) (k : ShownMember → ShownMember) (file : (m : HeldMember) → (f m).file ≡ m.file)
    (shown : (m : HeldMember) → held_shown (f m) ≡ k (held_shown m)) (same : (name : List ℕ) (status : MemberStatus) → status_shown (name, g status) ≡ k (status_shown (name, status))) where
  held-moved : (name : List ℕ) (members : List HeldMember) → map held_shown (filter (is_held_in name) (map f members)) ≡ map k (map held_shown (filter (is_held_in name) members))
  held-moved name [] = refl
  held-moved name (m ∷ members) =
      ap (λ (x : List ℕ). map held_shown (cond (bytes_eq x name) (f m ∷ filter (is_held_in name) (map f members)) (filter (is_held_in name) (map f members)))) (file m)
      ∙ by (bytes_eq m.file name) (held-moved name members)
    where
      by : (b : Bool) → map held_shown (filter (is_held_in name) (map f members)) ≡ map k (map held_shown (filter (is_held_in name) members))
          → map held_shown (cond b (f m ∷ filter (is_held_in name) (map f members)) (filter (is_held_in name) (map f members)))
          ≡ map k (map held_shown (cond b (m ∷ filter (is_held_in name) members) (filter (is_held_in name) members)))
      by true rest =
          ap (λ (h : ShownMember). h ∷ map held_shown (filter (is_held_in name) (map f members))) (shown m) ∙ ap (λ (t : List ShownMember). k (held_shown m) ∷ t) rest
      by false rest = rest

  statuses-moved : (members : Named MemberStatus) → map status_shown (map (λ (member : List ℕ × MemberStatus). (member.0, g member.1)) members) ≡ map k (map status_shown members)
  statuses-moved [] = refl
  statuses-moved (member ∷ members) =
      ap (λ (h : ShownMember). h ∷ map status_shown (map (λ (other : List ℕ × MemberStatus). (other.0, g other.1)) members)) (same member.0 member.1)
      ∙ ap (λ (t : List ShownMember). k (status_shown member) ∷ t) (statuses-moved members)

  pub members-moved : (held : List HeldMember) (files : Named FileState) → AllByRecursion (ShowsMembers held) files
      → AllByRecursion (ShowsMembers (map f held)) (map (statuses_changed g) files)
  members-moved held [] all = tt
  members-moved held (entry ∷ files) all =
      (held-moved entry.0 held ∙ ap (map k) all.0 ∙ sym (statuses-moved entry.1.members), members-moved held files all.1)

-- ---- the files themselves stay

pub files-shown : (g : MemberStatus → MemberStatus) (files : Named FileState) → map file_shown (map (statuses_changed g) files) ≡ map file_shown files
files-shown g [] = refl
files-shown g (entry ∷ files) = ap (λ (t : List ShownFile). file_shown entry ∷ t) (files-shown g files)

pub files-memberless : (g : MemberStatus → MemberStatus) (files : Named FileState) → map memberless (map (statuses_changed g) files) ≡ map memberless files
files-memberless g [] = refl
files-memberless g (entry ∷ files) = ap (λ (t : Named FileState). memberless entry ∷ t) (files-memberless g files)

pub files-named : (g : MemberStatus → MemberStatus) (name : List ℕ) (files : Named FileState) → is_some (named name files) ≡ is_some (named name (map (statuses_changed g) files))
files-named g name [] = refl
files-named g name (entry ∷ files) = by (same_name name entry.0) (files-named g name files) where
  by : (b : Bool) → is_some (named name files) ≡ is_some (named name (map (statuses_changed g) files))
      → is_some (cond b (Some entry.1) (named name files)) ≡ is_some (cond b (Some (statuses_changed g entry).1) (named name (map (statuses_changed g) files)))
  by true rest = refl
  by false rest = rest
