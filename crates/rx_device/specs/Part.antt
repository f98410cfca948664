-- The JSON value that a value read in place stands for: one whose names and words stand in its text, and whose numbers are text.
use Rattle.std.specs.Prelude.{◌&&◌, Bool, true, Option, Some, None, is_some}
use Rattle.json.specs.Json as text
use Rattle.json.specs.Value.{value_view}
use Rattle.serde_json.specs.Data.{Num, Data, null, boolean, number, string, array, object, Items, no_items, item, Members, no_members, put}
use Rattle.serde_json.specs.Read.{number_of}
use Rattle.rx_device.specs.declared.part.Part.{Part}

-- a number that is too large for a float has no value; a text with one is refused
abbrev pub number_or_null : Option Num → Data
number_or_null None = null
number_or_null (Some n) = number n

-- as serde_json has it: of a key that comes twice the last value stays
abbrev mutual
  pub data_of : text.Json → Data
  data_of text.null = null
  data_of (text.boolean b) = boolean b
  data_of (text.number s) = number_or_null (number_of s)
  data_of (text.string s) = string s
  data_of (text.array js) = array (items_data js)
  data_of (text.object ms) = object (members_data ms no_members)

  pub items_data : text.Items → Items
  items_data text.no_items = no_items
  items_data (text.item j js) = item (data_of j) (items_data js)

  pub members_data : text.Members → Members → Members
  members_data text.no_members found = found
  members_data (text.member k j ms) found = members_data ms (put k (data_of j) found)

abbrev pub part_data : Part → Data
part_data p = data_of (value_view p.value.now)

-- each number in it has a value
abbrev mutual
  pub has_values : text.Json → Bool
  has_values text.null = true
  has_values (text.boolean b) = true
  has_values (text.number s) = is_some (number_of s)
  has_values (text.string s) = true
  has_values (text.array js) = items_have_values js
  has_values (text.object ms) = members_have_values ms

  pub items_have_values : text.Items → Bool
  items_have_values text.no_items = true
  items_have_values (text.item j js) = has_values j && items_have_values js

  pub members_have_values : text.Members → Bool
  members_have_values text.no_members = true
  members_have_values (text.member k j ms) = has_values j && members_have_values ms
