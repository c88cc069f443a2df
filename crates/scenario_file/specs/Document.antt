-- A TOML document as lists: the keys of a table, the elements of an array, and what stands at a key.
use Rattle.std.specs.Prelude.{ℕ, ℤ, pos, negsuc, ◌==◌, Bool, true, false, List, [], ◌∷◌, Option, Some, None, is_some, unwrap_or}
use Rattle.std.specs.Option.{option_map_or}
use Rattle.std.specs.Cmp.Lexicographic.{pointwise}
use Rattle.toml.specs.Data.{Data, string, integer, array, as_table, Items, no_items, item, Members, no_members, member, get_member}

abbrev pub same_text : List ℕ → List ℕ → Bool
same_text a b = pointwise ◌==◌ a b

-- the elements of an array
unfoldable pub values_in : Items → List Data
values_in no_items = []
values_in (item d ds) = d ∷ values_in ds

-- the keys of a table
unfoldable pub keys_in : Members → List (List ℕ)
keys_in no_members = []
keys_in (member k d ms) = k ∷ keys_in ms

abbrev pub array_elements : Option Data → List Data
array_elements (Some (array ds)) = values_in ds
array_elements _ = []

-- the elements of the array at a key; none where no array stands there
abbrev pub elements : List ℕ → Members → List Data
elements key ms = array_elements (get_member key ms)

abbrev pub has_key : List ℕ → Members → Bool
has_key key ms = is_some (get_member key ms)

-- the value at a key passes the test, or none stands there
abbrev pub at_key : (Data → Bool) → List ℕ → Members → Bool
at_key test key ms = option_map_or test (get_member key ms) true

-- the value is a table that passes the test
abbrev pub on_table : (Members → Bool) → Data → Bool
on_table test d = option_map_or test (as_table d) false

-- the value is an array whose elements pass the test
abbrev pub on_array : (List Data → Bool) → Data → Bool
on_array test (array ds) = test (values_in ds)
on_array test _ = false

abbrev pub is_whole : Data → Bool
is_whole (integer z) = true
is_whole _ = false

abbrev pub is_text : Data → Bool
is_text (string s) = true
is_text _ = false

-- the members of a table; none where the value is no table
abbrev pub members_of : Data → Members
members_of d = unwrap_or (as_table d) no_members

-- a whole number that is not negative
abbrev pub natural : ℤ → Option ℕ
natural (pos n) = Some n
natural (negsuc n) = None

-- a whole number, 0 where it is negative
abbrev pub number : ℤ → ℕ
number z = unwrap_or (natural z) 0

-- the whole number at a key, and the default where none stands there
abbrev pub number_of : Option Data → ℕ → ℕ
number_of (Some (integer z)) default = number z
number_of _ default = default

abbrev pub number_at : List ℕ → ℕ → Members → ℕ
number_at key default ms = number_of (get_member key ms) default

-- the whole number at a key of a value that is a table, and the default where none stands there
abbrev pub number_in : List ℕ → ℕ → Data → ℕ
number_in key default d = number_at key default (members_of d)

-- the text at a key, empty where none stands there
abbrev pub text_of : Option Data → List ℕ
text_of (Some (string s)) = s
text_of _ = []

abbrev pub text_at : List ℕ → Members → List ℕ
text_at key ms = text_of (get_member key ms)

-- the whole number that a value is, where it is not negative
abbrev pub natural_in : Data → Option ℕ
natural_in (integer z) = natural z
natural_in _ = None

-- the numbers of an array of two whole numbers of which none is negative
abbrev pub pair_made : Option ℕ → Option ℕ → Option (ℕ × ℕ)
pair_made (Some a) (Some b) = Some (a, b)
pair_made _ _ = None

abbrev pub pair_from : ℤ → ℤ → Option (ℕ × ℕ)
pair_from a b = pair_made (natural a) (natural b)

abbrev pub pair_in : List Data → Option (ℕ × ℕ)
pair_in (integer a ∷ integer b ∷ []) = pair_from a b
pair_in _ = None

abbrev pub pair_of : Data → Option (ℕ × ℕ)
pair_of (array ds) = pair_in (values_in ds)
pair_of _ = None

-- a pair, and 0 and 0 where there is none
abbrev pub pair_or : Option (ℕ × ℕ) → ℕ × ℕ
pair_or p = unwrap_or p (0, 0)

abbrev pub pair_at_value : Option Data → ℕ × ℕ
pair_at_value (Some d) = pair_or (pair_of d)
pair_at_value None = (0, 0)

-- the pair at a key
abbrev pub pair_at : List ℕ → Members → ℕ × ℕ
pair_at key ms = pair_at_value (get_member key ms)
