-- Between whom the sessions of a world are: client_endpoint and controller_endpoint; session i, from 0, uses asset i mod 3.
use Rattle.std.specs.Prelude.{ℕ, ◌+◌, ◌%◌, ◌==◌, if◌then◌else◌}
use Rattle.cf_view.specs.declared.Endpoint.{Endpoint}

-- 10.1.0.(i+1), port 40,000 + i
abbrev pub client_endpoint : ℕ → Endpoint
client_endpoint i = record { address = 0x0A010001 + i; port = 40000 + i }

-- 10.2.0.1 port 502 speaks Modbus, 10.2.0.2 port 20,000 DNP3, and 10.2.0.3 port 2,404 IEC 60870-5-104
abbrev pub controller_endpoint : ℕ → Endpoint
controller_endpoint i =
    if i % 3 == 0 then record { address = 0x0A020001; port = 502 }
    else if i % 3 == 1 then record { address = 0x0A020002; port = 20000 }
    else record { address = 0x0A020003; port = 2404 }
