mod Heights
