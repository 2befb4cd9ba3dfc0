use Rattle.ht_window.proofs.window.Window.from_place.Goals as goal

pub spot_net-requires : goal.spot_net-requires
spot_net-requires c = (c.requires.walks c.in-Some.place c.in-Some.is).1
