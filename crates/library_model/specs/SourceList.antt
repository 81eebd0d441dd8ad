-- Which text has a name: the sources that come with an input. (Our own: IBM i keeps them in source physical files.)
use Rattle.std.specs.Prelude.{ℕ, if◌then◌else◌, Option, Some, None, List, [], ◌∷◌}
use Rattle.library_model.specs.declared.sources.NamedSource.{NamedSource}
use Rattle.library_model.specs.Named.{same_name}

-- the text of the first source of this name
abbrev pub text_of : List NamedSource → List ℕ → Option (List ℕ)
text_of [] name = None
text_of (source ∷ others) name = if same_name source.name name then Some source.text else text_of others name
