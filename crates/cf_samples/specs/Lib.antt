mod Assets
