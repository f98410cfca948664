use Rattle.rx_live.proofs.Common.{◌≡◌, ◌+◌, ◌*◌, drop, length, string_bytes, items_view, items_data, session_of, IsSound, AreAnswering, HasRoom}
use Rattle.rx_live.proofs.arrays.push_each.Given as goal

abbrev pub invariant-values : goal.invariant-values
invariant-values l = record {
  answering : AreAnswering (session_of l.fn.engine) (session_of l.engine) (items_data (items_view l.values.items))
      (items_data (items_view (drop l.value-index l.values.items))) (string_bytes l.fn.text) (string_bytes l.text) l.is_first;
  sound : IsSound (session_of l.engine);
  room : HasRoom l.rest l.text;
  share : l.rest + 23 * l.value-index ≡ 23 * length l.values.items + 1;
}
