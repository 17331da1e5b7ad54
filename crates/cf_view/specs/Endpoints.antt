-- Ends of a TCP connection: `same_endpoint`.
use Rattle.std.specs.Prelude.{◌==◌, Bool, ◌&&◌}
use Rattle.cf_view.specs.declared.base.Endpoint.{Endpoint}

-- both have the same address and the same port
abbrev pub same_endpoint : Endpoint → Endpoint → Bool
same_endpoint a b = (a.address == b.address) && (a.port == b.port)
