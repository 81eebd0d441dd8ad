-- Pages in two rings: which page is meant, and what another page in its place makes of them.
use Rattle.std.proofs.Common.{◌≡◌, ℕ, ◌-◌, ◌<◌, ◌≤◌, List, [], ◌++◌, length, get_or, set, sym, ◌∙◌}
use Rattle.std.proofs.lemmas.List.{get_or_append_left, get_or-append_right, get_or_read, set-append_left, set-append_right}
use Rattle.key_pages.specs.declared.entries.Entry.{Entry}
use Rattle.key_pages.specs.PageList.{page_at}

module _ (front back : List (List Entry)) (number : ℕ) (page new : List Entry) where
  module _ (within : number < length front) where
    pub front-read : page ≡ get_or front number page → page ≡ page_at (front ++ back) number
    front-read read = get_or_read front number page within read [] ∙ sym (get_or_append_left front back [] number within)

    pub front-put : set front number new ++ back ≡ set (front ++ back) number new
    front-put = sym (set-append_left front back number new within)

  module _ (half : ℕ) (long : length front ≡ half) (from : half ≤ number) where
    pub back-read : number - half < length back → page ≡ get_or back (number - half) page → page ≡ page_at (front ++ back) number
    back-read within read = get_or_read back (number - half) page within read [] ∙ sym (get_or-append_right front back half number [] long from)

    pub back-put : front ++ set back (number - half) new ≡ set (front ++ back) number new
    back-put = sym (set-append_right front back half number new long from)
