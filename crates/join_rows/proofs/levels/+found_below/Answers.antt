use Rattle.std.proofs.Common.{◌≡◌, ℕ, ◌+◌, ◌-◌, ◌<◌, Bor, Option, Some, None, List, [], ◌∷◌, ◌++◌, length, take, drop, map, sym, ◌∙◌, ap, subst, arith}
use Rattle.std.specs.Option.{option_map}
use Rattle.std.specs.Global.{Vec}
use Rattle.std.proofs.lemmas.List.{length-map, length-append}
use Rattle.key_pages.specs.declared.entries.Entry.{Entry}
use Rattle.key_pages.specs.EntryList.{EntryList}
use Rattle.key_pages.specs.Order.{IsInOrder}
use Rattle.file_model.specs.declared.joins.Secondary.{Secondary}
use Rattle.file_model.specs.Joins.{image_in}
use Rattle.join_rows.specs.declared.trials.Trial.{Trial}
use Rattle.join_rows.specs.Numbers.{row_by}
use Rattle.join_rows.specs.Reading.{AreReadable, AreFed, IsLeft, left_list, place_in, found_below}
use Rattle.join_rows.specs.Trials.{tried, first_trial, key_in, left_at, trials_from}
use Rattle.join_rows.proofs.BelowLemmas.{split-first, wanted-same, Level, IsHere, here-of, show, place_key, IsUnderway, IsBelow, begin, found, next, less, fed-below, begins, none-left}
use Rattle.join_rows.proofs.levels.+found_below.Goals as goal

pub loop-at-init : goal.loop-at-init
loop-at-init t c =
    let level : Level = record {
      members = c.args.walk.members.now.members;
      file = c.file-item.result;
      further = take (length c.args.files.now - 1) (drop 1 c.args.files.now);
      list = c.path-item.result.now;
      images = map (λ (image : Bor (List ℕ)). image.now) c.args.images.now;
      keeps_missing = c.args.walk.keeps_missing;
      back = c.args.walk.back;
      left = left_list c.args.left;
      wanted = c.in_ok-wanted.wanted;
    } in
    let others : List EntryList = map (λ (path : Bor EntryList). path.now) (take (length c.args.paths.now - 1) (drop 1 c.args.paths.now)) in
    let files-are : c.args.files.now ≡ level.file ∷ level.further = split-first c.args.files.now c.file-item.result (omega (arith, c.in-len1-up.len_at_least)) c.file-item.is in
    let paths-are : map (λ (path : Bor EntryList). path.now) c.args.paths.now ≡ level.list ∷ others =
    ap (map (λ (path : Bor EntryList). path.now)) (split-first c.args.paths.now c.path-item.result (omega (arith, c.in-len1-up-paths.len_at_least)) c.path-item.is) in
    let here : IsHere level others =
    here-of level others (map (λ (path : Bor EntryList). path.now) c.args.paths.now) c.args.files.now files-are paths-are (length c.args.images.now)
    (length-map c.args.images.now (λ (image : Bor (List ℕ)). image.now))
    c.requires.readable c.requires.fed
    (wanted-same c.in_ok-wanted.wanted c.as_slice.result.now level.file.pairs c.image_from.result.now
    (image_in level.file.from level.images) c.in_ok-wanted.ensures c.as_slice.ensures c.image_from.ensures)
    (subst (λ (l : EntryList). IsInOrder l.falling l.entries) c.pages.ensures c.in_order.ensures.order) in
    let key-is : c.as_slice-place_key.result.now ≡ place_key level = c.as_slice-place_key.ensures.value ∙ c.in_ok-key.ensures ∙ ap (key_in level.wanted) c.place.ensures in
    begin level others here (option_map tried c.first_trial-at.result)
    (c.first_trial-at.ensures
    ∙ ap (λ p. first_trial level.back level.keeps_missing level.wanted p c.as_slice-place_key.result.now level.list) c.place-2.ensures
    ∙ ap (λ k. first_trial level.back level.keeps_missing level.wanted (place_in level.left) k level.list) key-is)

pub found_below-requires : goal.found_below-requires
found_below-requires t c =
    let level : Level = record {
      members = c.args.walk.members.now.members;
      file = c.file-item.result;
      further = take (length c.args.files.now - 1) (drop 1 c.args.files.now);
      list = c.path-item.result.now;
      images = map (λ (image : Bor (List ℕ)). image.now) c.args.images.now;
      keeps_missing = c.args.walk.keeps_missing;
      back = c.args.walk.back;
      left = left_list c.args.left;
      wanted = c.in_ok-wanted.wanted;
    } in
    let others : List EntryList = map (λ (path : Bor EntryList). path.now) (take (length c.args.paths.now - 1) (drop 1 c.args.paths.now)) in
    let files-are : c.args.files.now ≡ level.file ∷ level.further = split-first c.args.files.now c.file-item.result (omega (arith, c.in-len1-up.len_at_least)) c.file-item.is in
    let paths-are : map (λ (path : Bor EntryList). path.now) c.args.paths.now ≡ level.list ∷ others =
    ap (map (λ (path : Bor EntryList). path.now)) (split-first c.args.paths.now c.path-item.result (omega (arith, c.in-len1-up-paths.len_at_least)) c.path-item.is) in
    let here : IsHere level others =
    here-of level others (map (λ (path : Bor EntryList). path.now) c.args.paths.now) c.args.files.now files-are paths-are (length c.args.images.now)
    (length-map c.args.images.now (λ (image : Bor (List ℕ)). image.now))
    c.requires.readable c.requires.fed
    (wanted-same c.in_ok-wanted.wanted c.as_slice.result.now level.file.pairs c.image_from.result.now
    (image_in level.file.from level.images) c.in_ok-wanted.ensures c.as_slice.ensures c.image_from.ensures)
    (subst (λ (l : EntryList). IsInOrder l.falling l.entries) c.pages.ensures c.in_order.ensures.order) in
    let trial : Option Entry = tried c.in-Some.trial in
    let way : IsUnderway level (Some trial) = subst (λ (o : Option Trial). IsUnderway level (option_map tried o)) c.in-Some.is c.loop-at.invariant in
    let more-images : map (λ (image : Bor (List ℕ)). image.now) c.as_slice-in-Some.result.now ≡ level.images ++ (show level trial).image ∷ [] =
    ap (map (λ (image : Bor (List ℕ)). image.now)) c.as_slice-in-Some.ensures.value ∙ c.in_ok-more.ensures ∙ ap (λ w. level.images ++ w ∷ []) c.image.ensures in
    let long : length c.args.files.now ≡ length (level.file ∷ level.further) = ap length files-are in
    let longer : length c.as_slice-in-Some.result.now ≡ length level.images + 1 =
    sym (length-map c.as_slice-in-Some.result.now (λ (image : Bor (List ℕ)). image.now)) ∙ ap length more-images ∙ length-append level.images ((show level trial).image ∷ []) in (
      omega (arith, c.decreases, long),
      (
        subst (λ n. AreReadable level.members n level.further others) (sym longer) here.rest,
        subst (λ w. AreFed w level.further) (sym more-images) (fed-below level others here trial way),
      ),
    )

pub returns-in-Some-found : goal.returns-in-Some-found
returns-in-Some-found t c =
    let level : Level = record {
      members = c.args.walk.members.now.members;
      file = c.file-item.result;
      further = take (length c.args.files.now - 1) (drop 1 c.args.files.now);
      list = c.path-item.result.now;
      images = map (λ (image : Bor (List ℕ)). image.now) c.args.images.now;
      keeps_missing = c.args.walk.keeps_missing;
      back = c.args.walk.back;
      left = left_list c.args.left;
      wanted = c.in_ok-wanted.wanted;
    } in
    let others : List EntryList = map (λ (path : Bor EntryList). path.now) (take (length c.args.paths.now - 1) (drop 1 c.args.paths.now)) in
    let files-are : c.args.files.now ≡ level.file ∷ level.further = split-first c.args.files.now c.file-item.result (omega (arith, c.in-len1-up.len_at_least)) c.file-item.is in
    let paths-are : map (λ (path : Bor EntryList). path.now) c.args.paths.now ≡ level.list ∷ others =
    ap (map (λ (path : Bor EntryList). path.now)) (split-first c.args.paths.now c.path-item.result (omega (arith, c.in-len1-up-paths.len_at_least)) c.path-item.is) in
    let here : IsHere level others =
    here-of level others (map (λ (path : Bor EntryList). path.now) c.args.paths.now) c.args.files.now files-are paths-are (length c.args.images.now)
    (length-map c.args.images.now (λ (image : Bor (List ℕ)). image.now))
    c.requires.readable c.requires.fed
    (wanted-same c.in_ok-wanted.wanted c.as_slice.result.now level.file.pairs c.image_from.result.now
    (image_in level.file.from level.images) c.in_ok-wanted.ensures c.as_slice.ensures c.image_from.ensures)
    (subst (λ (l : EntryList). IsInOrder l.falling l.entries) c.pages.ensures c.in_order.ensures.order) in
    let key-is : c.as_slice-place_key.result.now ≡ place_key level = c.as_slice-place_key.ensures.value ∙ c.in_ok-key.ensures ∙ ap (key_in level.wanted) c.place.ensures in
    let trial : Option Entry = tried c.in-Some.trial in
    let way : IsUnderway level (Some trial) = subst (λ (o : Option Trial). IsUnderway level (option_map tried o)) c.in-Some.is c.loop-at.invariant in
    let more-images : map (λ (image : Bor (List ℕ)). image.now) c.as_slice-in-Some.result.now ≡ level.images ++ (show level trial).image ∷ [] =
    ap (map (λ (image : Bor (List ℕ)). image.now)) c.as_slice-in-Some.ensures.value ∙ c.in_ok-more.ensures ∙ ap (λ w. level.images ++ w ∷ []) c.image.ensures in
    let left-is : left_list c.left_below-below.result ≡ left_at level.left (place_key level) trial = c.left_below-below.ensures ∙ ap (λ k. left_at level.left k trial) key-is in
    let below : IsBelow level trial (Some c.in-Some-found.numbers.items) = λ row from same rest-is.
    ap (option_map (row_by level.members level.further row)) (ap (option_map (λ (numbers : Vec (Option ℕ)). numbers.items)) (sym c.in-Some-found.is))
    ∙ c.in_ok-found.ensures row from (same ∙ sym more-images) (subst (λ l. IsLeft level.further l from) (sym left-is) rest-is) in
    λ row from same rest-is.
    subst (λ (fs : List Secondary). Some (row_by level.members fs row c.in_ok-all.all.items) ≡ found_below level.back level.keeps_missing level.members fs row from) (sym files-are)
    (ap (λ ns. Some (row_by level.members (level.file ∷ level.further) row ns)) (c.in_ok-all.ensures ∙ ap (λ n. n ∷ c.in-Some-found.numbers.items) c.number.ensures)
    ∙ found level others here trial way c.in-Some-found.numbers.items below row from same (subst (λ (fs : List Secondary). IsLeft fs level.left from) files-are rest-is))

pub next_trial-at-requires : goal.next_trial-at-requires
next_trial-at-requires t c =
    let level : Level = record {
      members = c.args.walk.members.now.members;
      file = c.file-item.result;
      further = take (length c.args.files.now - 1) (drop 1 c.args.files.now);
      list = c.path-item.result.now;
      images = map (λ (image : Bor (List ℕ)). image.now) c.args.images.now;
      keeps_missing = c.args.walk.keeps_missing;
      back = c.args.walk.back;
      left = left_list c.args.left;
      wanted = c.in_ok-wanted.wanted;
    } in
    let others : List EntryList = map (λ (path : Bor EntryList). path.now) (take (length c.args.paths.now - 1) (drop 1 c.args.paths.now)) in
    let files-are : c.args.files.now ≡ level.file ∷ level.further = split-first c.args.files.now c.file-item.result (omega (arith, c.in-len1-up.len_at_least)) c.file-item.is in
    let paths-are : map (λ (path : Bor EntryList). path.now) c.args.paths.now ≡ level.list ∷ others =
    ap (map (λ (path : Bor EntryList). path.now)) (split-first c.args.paths.now c.path-item.result (omega (arith, c.in-len1-up-paths.len_at_least)) c.path-item.is) in
    let here : IsHere level others =
    here-of level others (map (λ (path : Bor EntryList). path.now) c.args.paths.now) c.args.files.now files-are paths-are (length c.args.images.now)
    (length-map c.args.images.now (λ (image : Bor (List ℕ)). image.now))
    c.requires.readable c.requires.fed
    (wanted-same c.in_ok-wanted.wanted c.as_slice.result.now level.file.pairs c.image_from.result.now
    (image_in level.file.from level.images) c.in_ok-wanted.ensures c.as_slice.ensures c.image_from.ensures)
    (subst (λ (l : EntryList). IsInOrder l.falling l.entries) c.pages.ensures c.in_order.ensures.order) in
    let trial : Option Entry = tried c.in-Some.trial in
    let way : IsUnderway level (Some trial) = subst (λ (o : Option Trial). IsUnderway level (option_map tried o)) c.in-Some.is c.loop-at.invariant in
    begins level others here trial way

pub loop-at-smaller : goal.loop-at-smaller
loop-at-smaller t c =
    let level : Level = record {
      members = c.args.walk.members.now.members;
      file = c.file-item.result;
      further = take (length c.args.files.now - 1) (drop 1 c.args.files.now);
      list = c.path-item.result.now;
      images = map (λ (image : Bor (List ℕ)). image.now) c.args.images.now;
      keeps_missing = c.args.walk.keeps_missing;
      back = c.args.walk.back;
      left = left_list c.args.left;
      wanted = c.in_ok-wanted.wanted;
    } in
    let others : List EntryList = map (λ (path : Bor EntryList). path.now) (take (length c.args.paths.now - 1) (drop 1 c.args.paths.now)) in
    let files-are : c.args.files.now ≡ level.file ∷ level.further = split-first c.args.files.now c.file-item.result (omega (arith, c.in-len1-up.len_at_least)) c.file-item.is in
    let paths-are : map (λ (path : Bor EntryList). path.now) c.args.paths.now ≡ level.list ∷ others =
    ap (map (λ (path : Bor EntryList). path.now)) (split-first c.args.paths.now c.path-item.result (omega (arith, c.in-len1-up-paths.len_at_least)) c.path-item.is) in
    let here : IsHere level others =
    here-of level others (map (λ (path : Bor EntryList). path.now) c.args.paths.now) c.args.files.now files-are paths-are (length c.args.images.now)
    (length-map c.args.images.now (λ (image : Bor (List ℕ)). image.now))
    c.requires.readable c.requires.fed
    (wanted-same c.in_ok-wanted.wanted c.as_slice.result.now level.file.pairs c.image_from.result.now
    (image_in level.file.from level.images) c.in_ok-wanted.ensures c.as_slice.ensures c.image_from.ensures)
    (subst (λ (l : EntryList). IsInOrder l.falling l.entries) c.pages.ensures c.in_order.ensures.order) in
    let trial : Option Entry = tried c.in-Some.trial in
    let way : IsUnderway level (Some trial) = subst (λ (o : Option Trial). IsUnderway level (option_map tried o)) c.in-Some.is c.loop-at.invariant in
    subst
    (λ (o : Option Trial). length (trials_from level.back level.wanted (option_map tried c.next_trial-at.result) level.list)
    < length (trials_from level.back level.wanted (option_map tried o) level.list))
    (sym c.in-Some.is)
    (less level others here trial way (option_map tried c.next_trial-at.result) c.next_trial-at.ensures)

pub loop-at-preserved : goal.loop-at-preserved
loop-at-preserved t c =
    let level : Level = record {
      members = c.args.walk.members.now.members;
      file = c.file-item.result;
      further = take (length c.args.files.now - 1) (drop 1 c.args.files.now);
      list = c.path-item.result.now;
      images = map (λ (image : Bor (List ℕ)). image.now) c.args.images.now;
      keeps_missing = c.args.walk.keeps_missing;
      back = c.args.walk.back;
      left = left_list c.args.left;
      wanted = c.in_ok-wanted.wanted;
    } in
    let others : List EntryList = map (λ (path : Bor EntryList). path.now) (take (length c.args.paths.now - 1) (drop 1 c.args.paths.now)) in
    let files-are : c.args.files.now ≡ level.file ∷ level.further = split-first c.args.files.now c.file-item.result (omega (arith, c.in-len1-up.len_at_least)) c.file-item.is in
    let paths-are : map (λ (path : Bor EntryList). path.now) c.args.paths.now ≡ level.list ∷ others =
    ap (map (λ (path : Bor EntryList). path.now)) (split-first c.args.paths.now c.path-item.result (omega (arith, c.in-len1-up-paths.len_at_least)) c.path-item.is) in
    let here : IsHere level others =
    here-of level others (map (λ (path : Bor EntryList). path.now) c.args.paths.now) c.args.files.now files-are paths-are (length c.args.images.now)
    (length-map c.args.images.now (λ (image : Bor (List ℕ)). image.now))
    c.requires.readable c.requires.fed
    (wanted-same c.in_ok-wanted.wanted c.as_slice.result.now level.file.pairs c.image_from.result.now
    (image_in level.file.from level.images) c.in_ok-wanted.ensures c.as_slice.ensures c.image_from.ensures)
    (subst (λ (l : EntryList). IsInOrder l.falling l.entries) c.pages.ensures c.in_order.ensures.order) in
    let key-is : c.as_slice-place_key.result.now ≡ place_key level = c.as_slice-place_key.ensures.value ∙ c.in_ok-key.ensures ∙ ap (key_in level.wanted) c.place.ensures in
    let trial : Option Entry = tried c.in-Some.trial in
    let way : IsUnderway level (Some trial) = subst (λ (o : Option Trial). IsUnderway level (option_map tried o)) c.in-Some.is c.loop-at.invariant in
    let more-images : map (λ (image : Bor (List ℕ)). image.now) c.as_slice-in-Some.result.now ≡ level.images ++ (show level trial).image ∷ [] =
    ap (map (λ (image : Bor (List ℕ)). image.now)) c.as_slice-in-Some.ensures.value ∙ c.in_ok-more.ensures ∙ ap (λ w. level.images ++ w ∷ []) c.image.ensures in
    let left-is : left_list c.left_below-below.result ≡ left_at level.left (place_key level) trial = c.left_below-below.ensures ∙ ap (λ k. left_at level.left k trial) key-is in
    let below : IsBelow level trial None = λ row from same rest-is.
    ap (option_map (row_by level.members level.further row)) (ap (option_map (λ (numbers : Vec (Option ℕ)). numbers.items)) (sym c.in_default-found.is))
    ∙ c.in_ok-found.ensures row from (same ∙ sym more-images) (subst (λ l. IsLeft level.further l from) (sym left-is) rest-is) in
    next level others here trial way below (option_map tried c.next_trial-at.result) c.next_trial-at.ensures

pub returns : goal.returns
returns t c =
    let level : Level = record {
      members = c.args.walk.members.now.members;
      file = c.file-item.result;
      further = take (length c.args.files.now - 1) (drop 1 c.args.files.now);
      list = c.path-item.result.now;
      images = map (λ (image : Bor (List ℕ)). image.now) c.args.images.now;
      keeps_missing = c.args.walk.keeps_missing;
      back = c.args.walk.back;
      left = left_list c.args.left;
      wanted = c.in_ok-wanted.wanted;
    } in
    let others : List EntryList = map (λ (path : Bor EntryList). path.now) (take (length c.args.paths.now - 1) (drop 1 c.args.paths.now)) in
    let files-are : c.args.files.now ≡ level.file ∷ level.further = split-first c.args.files.now c.file-item.result (omega (arith, c.in-len1-up.len_at_least)) c.file-item.is in
    let paths-are : map (λ (path : Bor EntryList). path.now) c.args.paths.now ≡ level.list ∷ others =
    ap (map (λ (path : Bor EntryList). path.now)) (split-first c.args.paths.now c.path-item.result (omega (arith, c.in-len1-up-paths.len_at_least)) c.path-item.is) in
    let here : IsHere level others =
    here-of level others (map (λ (path : Bor EntryList). path.now) c.args.paths.now) c.args.files.now files-are paths-are (length c.args.images.now)
    (length-map c.args.images.now (λ (image : Bor (List ℕ)). image.now))
    c.requires.readable c.requires.fed
    (wanted-same c.in_ok-wanted.wanted c.as_slice.result.now level.file.pairs c.image_from.result.now
    (image_in level.file.from level.images) c.in_ok-wanted.ensures c.as_slice.ensures c.image_from.ensures)
    (subst (λ (l : EntryList). IsInOrder l.falling l.entries) c.pages.ensures c.in_order.ensures.order) in
    let way : IsUnderway level None = subst (λ (o : Option Trial). IsUnderway level (option_map tried o)) c.in_default-at.is c.loop-at.invariant in
    λ row from same rest-is.
    subst (λ (fs : List Secondary). None ≡ found_below level.back level.keeps_missing level.members fs row from) (sym files-are)
    (none-left level others here way row from same (subst (λ (fs : List Secondary). IsLeft fs level.left from) files-are rest-is))
